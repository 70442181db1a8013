-- Stretches at the first `count` numbers of a list among stretches wherever they stand.
-- Assumes nothing.
use mathlib.Core.Path.{◌≡◌, ap}
use mathlib.Core.List.{List}
use Prim.Native.Nat.{ℕ, ◌+◌, ◌*◌, ◌≤◌, ◌<◌}
use lib.ListN.{length, get_or, take}
use Rattle.std.proofs.Common.{length-take-le, get_or-take}
use Rattle.stripes.specs.Fold.{gate}
use Rattle.stripes.proofs.Fold.{xsum_ext}
use Rattle.xor.specs.Spots.{Inside, Clear, picked_spots, total_at}
use Rattle.xor.specs.Picked.{Chosen, Beside, picked}
use Rattle.xor.proofs.Strided.{apart}

module _ (step : ℕ) (list : List ℕ) (count : ℕ) (listed : count ≤ length list) where
  many : length (take count list) ≡ count
  many = length-take-le count list listed

  number : (k : ℕ) → k < count → get_or (take count list) k 0 ≡ get_or list k 0
  number k b = get_or-take count list k 0 b

  pub picked_total : (a : List ℕ) (j : ℕ) → total_at (picked_spots step (take count list)) a j ≡ picked a j step list count
  unfolding total_at picked gate
  picked_total a j = rw many (xsum_ext count (λ k b. ap (λ (n : ℕ). get_or a (j + n * step) 0) (number k b)))

  pub picked_inside : {a : List ℕ} {first w : ℕ} → Chosen a first step list count w → Inside (picked_spots step (take count list)) a first w
  picked_inside {a} {first} {w} s =
      record { each = λ k b. let h = rw many at b in rw (number k h) (s.within k h) }

  pub picked_clear : {a : List ℕ} {first target w : ℕ} → Beside a first step list count target w
      → Clear (picked_spots step (take count list)) a first (target * step) w
  picked_clear {target = target} {w} s =
      record {
        inside = picked_inside s.chosen;
        room = s.room;
        apart = λ k b t. let h = rw many at b in rw (number k h) (apart step w (get_or list k 0) target s.apart (s.other k h));
      }
