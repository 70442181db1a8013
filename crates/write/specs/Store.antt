-- Where a write changes the array, and what its parts make of it, in terms of bytes.
-- Assumes nothing.
use Rattle.std.specs.Prelude.{List, ℕ, zero, suc, ◌+◌, ◌*◌, ◌/◌, ◌%◌, ◌≤◌, length, get_or}
use Rattle.stripes.specs.Fold.{◌⊕◌}
use Rattle.model.specs.Grid.{rows, columns, across, disk_at}
use Rattle.model.specs.declared.Size.{Size}
use Rattle.xor.specs.Strided.{added}
use Rattle.write.specs.declared.store.Places.{Places}

-- The block of disk d, and those of its parities.
abbrev pub places_of : Size → (B d : ℕ) → Places
places_of z B d =
    record {
      own = d * B;
      row = disk_at z (d / across z) (columns z) * B;
      column = disk_at z (rows z) (d % across z) * B;
      corner = disk_at z (rows z) (columns z) * B;
    }

-- n bytes of the new block and of the four blocks that change are there.
pub record Room (n : ℕ) (at : Places) (new a : List ℕ) : Type 0 where
  pub new_inside : n ≤ length new
  pub own_inside : at.own + n ≤ length a
  pub row_inside : at.row + n ≤ length a
  pub column-inside : at.column + n ≤ length a
  pub corner_inside : at.corner + n ≤ length a

module _ (at : Places) (new : List ℕ) where
  -- At w places from k on, the difference is added to each of the four blocks.
  unfoldable pub part : (w : ℕ) → List ℕ → (k : ℕ) → List ℕ
  part w a k =
      let change : ℕ → ℕ = λ i. get_or a (at.own + (k + i)) 0 ⊕ get_or new (k + i) 0 in
      added (added (added (added a (at.own + k) w change) (at.row + k) w change) (at.column + k) w change) (at.corner + k) w change

  -- That in `count` parts, one behind the other.
  unfoldable pub parts : (from w : ℕ) → List ℕ → (count : ℕ) → List ℕ
  parts from w a zero = a
  parts from w a (suc i) = part w (parts from w a i) (from + w * i)
