-- What a reader's answer tells of the number that it was asked for.
-- Assumes nothing.
use mathlib.Core.Path.{◌≡◌, refl}
use mathlib.Core.Bool.{Bool, true, cond, ◌&&◌}
use mathlib.Core.List.{List}
use Prim.Native.Nat.{ℕ, ◌≤◌, ◌<◌}
use native.Mathlib.Nat.{pos_of_ne-zero}
use borrow.Author.Tests.{eq-eqb, eqb-true, eqb-false, leb-true, leb-false}
use lib.Dec.{eqb, leb}
use lib.ListN.{length}
use Rattle.stripes.proofs.Fold.{by_cases}
use Rattle.model.specs.Sheet.{narrow}
use Rattle.model.specs.Chain.{entry_at, next_number}
use Rattle.reader.specs.Found.{found_at}
use Rattle.reader.specs.declared.Found.{Found}
use Rattle.reader.specs.declared.Found.TheVariants.{Record, End, Outside}

-- What an answer says of a number.
abbrev pub Says : List ℕ → ℕ → Found → Type 0
Says s n (Record d t m) = (0 < n) × (n ≤ 32) × (entry_at narrow s n ≡ record { disk = d; stripe = t }) × (next_number narrow s n ≡ m)
Says s n End = n ≡ 0
Says s n Outside = 32 < n

pub found_says : (s : List ℕ) (n : ℕ) (f : Found) → length s ≡ 98 → f ≡ found_at s n → Says s n f
unfolding found_at
found_says s n f long e =
    let there : Found = Record (entry_at narrow s n).disk (entry_at narrow s n).stripe (next_number narrow s n) in
    rw (e, eq-eqb (length s) 98 long)
    (by_cases (λ (b : Bool). Says s n (cond b End (cond (leb n 32 && true) there Outside))) (eqb n 0) (eqb-true n 0)
    (λ z.
    by_cases (λ (b : Bool). Says s n (cond (b && true) there Outside)) (leb n 32)
    (λ q. (pos_of_ne-zero (eqb-false n 0 z), leb-true n 32 q, refl, refl)) (leb-false n 32)))
