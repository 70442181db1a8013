-- Repairs made one after another, as a list has them.
-- Assumes nothing.
use mathlib.Core.Path.{◌≡◌, refl, sym, ◌∙◌, ap, ap₂}
use mathlib.Core.List.{List, [], ◌∷◌, ◌++◌}
use Prim.Native.Nat.{ℕ, ◌+◌}
use native.Mathlib.Numerals.{add-one}
use Rattle.stripes.specs.System.{Layout}
use Rattle.stripes.specs.Repair.{Entry, repaired, rebuilt}
use Rattle.stripes.specs.declared.Stretch.{Stretch}
use Rattle.entries.specs.Listed.{entry_disk, entry_stripe, listed}

-- One repair more.
rebuilt_snoc : (L : Layout) (x : Stretch) (a : List ℕ) (w : List Entry) (r : Entry)
    → rebuilt L x a (w ++ (r ∷ [])) ≡ repaired L x (rebuilt L x a w) r
unfolding rebuilt
rebuilt_snoc L x a [] r = refl
rebuilt_snoc L x a (v ∷ w) r = rebuilt_snoc L x (repaired L x a v) w r

module _ (L : Layout) (x : Stretch) (a list : List ℕ) where
  pub steps_none : a ≡ rebuilt L x a (listed list 0)
  unfolding listed rebuilt
  steps_none = refl

  -- The repair that entry k names, after those before it.
  pub steps_next : (k : ℕ) (b : List ℕ) → b ≡ rebuilt L x a (listed list k)
      → (d s : ℕ) → d ≡ entry_disk list k → s ≡ entry_stripe list k
      → repaired L x b (record { disk = d; stripe = s }) ≡ rebuilt L x a (listed list (k + 1))
  unfolding listed
  steps_next k b e d s disk_is stripe-is =
      ap₂ (λ (l : List ℕ) (r : Entry). repaired L x l r) e (ap₂ (λ (d s : ℕ). record { disk = d; stripe = s }) disk_is stripe-is)
      ∙ sym (rebuilt_snoc L x a (listed list k) _)
      ∙ ap (λ (n : ℕ). rebuilt L x a (listed list n)) (sym (add-one k))
