-- Editions of the array: what demand 3 has to know of one, and the edition of paper 01.
-- Assumes nothing.
use Rattle.std.specs.Prelude.{Bool, List, ℕ, ◌+◌}
use Rattle.stripes.specs.System.{Layout}
use Rattle.stripes.specs.Repair.{Entry}
use Rattle.model.specs.Grid.{rows, columns, layout_of}
use Rattle.model.specs.Loop.{Loop}
use Rattle.model.specs.declared.Size.{Size}

pub record Edition : Type 1 where
  -- The stripe system, and what a loop of erased disks is in it.
  pub layout : Layout
  pub Loops : (ℕ → Bool) → List Entry → Type 0
  -- The most repairs that a loss can take, and how many disks always come back.
  pub most_repairs : ℕ
  pub always : ℕ

-- The array with superparity. Column c is stripe base + c.
unfoldable pub superparity : Size → (base : ℕ) → Edition
superparity z base = record { layout = layout_of z base; Loops = Loop z base; most_repairs = rows z + columns z + 1; always = 3 }
