-- The listing program's text: the first 259 bytes of the input settle it.
-- Assumes nothing.
use mathlib.Core.Path.{◌≡◌, refl, sym, ◌∙◌, ap, ap₂}
use mathlib.Core.Bool.{Bool, true, false, cond, ◌&&◌}
use mathlib.Core.Logic.{⊎_elim}
use mathlib.Core.List.{List, [], ◌∷◌, ◌++◌}
use Prim.Native.Nat.{ℕ, ◌≤◌, ◌<◌}
use native.Mathlib.Omega.{arith}
use borrow.Author.Tests.{ne_eqb}
use lib.Dec.{leb}
use lib.ListN.{length, get_or, take, drop, length-take, length-drop}
use lib.Seq.{take_all, get_or-take}
use Rattle.stripes.specs.Fold.{every}
use Rattle.model.specs.Grid.{rectangle, size_fits, map_bytes, map_fits}
use Rattle.model.specs.Refusal.{refusal}
use Rattle.model.specs.Listing.{decimal, refused_word, listing}
use Rattle.model.specs.Plan.{sheet_tests, one_tests}
use Rattle.model.specs.declared.Size.{Size}
use Rattle.stripes.proofs.Fold.{lt_or_le}
use Rattle.model.proofs.Grid.{size_fits_lem, disks-bound, one_byte}
use Rattle.model.proofs.Refusal.{given-refused, fails, passes}

-- A map of more than 256 bytes is refused by 4, or by 1 together with its size.
overlong : (z : Size) (m : List ℕ) → 256 < length m → refusal (one_tests z m 98) ≡ cond (size_fits z) 4 1
unfolding one_tests sheet_tests map_fits
overlong z m h = go (size_fits z) refl
  where
    go : (b : Bool) → size_fits z ≡ b → refusal (one_tests z m 98) ≡ cond b 4 1
    go true e =
        let most = disks-bound z (size_fits_lem z e) in
        let bytes = one_byte z in
        passes 1 (size_fits z) _ e
        ∙ fails 4 (map_fits (map_bytes z 1) m) _
        (ap (λ (b : Bool). b && every (length m) (λ d. leb (get_or m d 0) 1)) (ne_eqb (length m) (map_bytes z 1) (λ q. omega arith)))
    go false e = fails 1 (size_fits z) _ e

refused_listing : (input : List ℕ) → 258 < length input
    → listing input ≡ refused_word ++ decimal (cond (size_fits (rectangle (get_or input 0 0) (get_or input 1 0))) 4 1) ++ 10 ∷ []
unfolding listing
refused_listing input h =
    let z : Size = rectangle (get_or input 0 0) (get_or input 1 0) in
    let long = length-drop 2 input in
    let is = overlong z (drop 2 input) (omega arith) in
    given-refused (refusal (one_tests z (drop 2 input) 98)) _ _ (λ e. never (size_fits z) (sym is ∙ e))
    ∙ ap (λ (k : ℕ). refused_word ++ decimal k ++ 10 ∷ []) is
  where
    never : (b : Bool) → ◌≡◌ {A = ℕ} (cond b 4 1) 0 → ⊥
    never true e = omega arith
    never false e = omega arith

-- So the program need not read more than 259 bytes.
pub listing_settled : (input : List ℕ) → listing (take 259 input) ≡ listing input
listing_settled input =
    ⊎_elim
    (λ (l : 259 < length input).
    let long = length-take 259 input in
    refused_listing (take 259 input) (omega arith)
    ∙ ap₂ (λ (a b : ℕ). refused_word ++ decimal (cond (size_fits (rectangle a b)) 4 1) ++ 10 ∷ [])
    (get_or-take 259 input 0 0 (omega arith)) (get_or-take 259 input 1 0 (omega arith))
    ∙ sym (refused_listing input (omega arith)))
    (λ (l : length input ≤ 259). ap listing (take_all 259 input l))
    (lt_or_le 259 (length input))
