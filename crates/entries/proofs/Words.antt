-- The laws of lists in words.
-- Assumes nothing.
use mathlib.Core.Path.{◌≡◌, refl, sym, ◌∙◌, ap, ap₂, subst}
use mathlib.Core.Logic.{⊎_elim}
use mathlib.Core.List.{List, [], ◌∷◌, ◌++◌}
use Prim.Native.Nat.{ℕ, zero, suc, ◌+◌, ◌/◌, ◌%◌, ◌≤◌, ◌<◌, min}
use native.Mathlib.Nat.{le_of_suc-le-suc, lt-suc_self, eq-or-lt_of_le, not-suc-le-zero}
use native.Mathlib.Numerals.{add-one}
use native.Mathlib.Omega.{arith}
use lib.ListN.{length, get_or, set, take, length-append, get_or-append}
use lib.Seq.{take_all, take-append-le, get_or-set_same, get_or-set_other, get_or-append_seam}
use Rattle.stripes.specs.Repair.{Entry}
use Rattle.stripes.proofs.Fold.{lt_or_le}
use Rattle.entries.specs.Listed.{word_of, entry_disk, entry_stripe, listed}

-- The entry of a word.
abbrev pub entry_at : List ℕ → ℕ → Entry
entry_at l k = record { disk = entry_disk l k; stripe = entry_stripe l k }

-- The first k entries are k.
pub listed-length : (l : List ℕ) (k : ℕ) → length (listed l k) ≡ k
unfolding listed
listed-length l zero = refl
listed-length l (suc k) = simp (length-append, listed-length l k) (omega arith)

-- Only the first k words count.
pub listed_same : (k : ℕ) (l m : List ℕ) → ((i : ℕ) → i < k → get_or l i 0 ≡ get_or m i 0) → listed l k ≡ listed m k
unfolding listed
listed_same zero l m same = refl
listed_same (suc k) l m same =
    ap₂ (λ (w : List Entry) (v : ℕ). w ++ (record { disk = v % 65536; stripe = v / 65536 % 65536 } ∷ []))
    (listed_same k l m (λ i h. same i (omega arith))) (same k (lt-suc_self k))

-- Writing entry number k puts it behind the first k.
pub listed_put : (l : List ℕ) (k d s : ℕ) → k < length l → d < 65536 → s < 65536
    → listed (set l k (word_of d s)) (k + 1) ≡ listed l k ++ (record { disk = d; stripe = s } ∷ [])
unfolding listed
listed_put l k d s h low high =
    let word : get_or (set l k (word_of d s)) k 0 ≡ word_of d s = get_or-set_same l k (word_of d s) 0 h in
    let disk : entry_disk (set l k (word_of d s)) k ≡ d = ap (λ (v : ℕ). v % 65536) word ∙ omega arith in
    let stripe : entry_stripe (set l k (word_of d s)) k ≡ s = ap (λ (v : ℕ). v / 65536 % 65536) word ∙ omega arith in
    ap (listed (set l k (word_of d s))) (add-one k)
    ∙ ap₂ (λ (w : List Entry) (r : Entry). w ++ (r ∷ []))
    (listed_same k (set l k (word_of d s)) l (λ i w. get_or-set_other l k i (word_of d s) 0 (λ q. omega arith)))
    (ap₂ (λ (x y : ℕ). record { disk = x; stripe = y }) disk stripe)

-- The first of the first entries.
listed_front : (l : List ℕ) (n k : ℕ) → k ≤ n → take k (listed l n) ≡ listed l k
unfolding listed
listed_front l zero k h = let none : k ≡ 0 = omega arith in rw none refl
listed_front l (suc n) k h =
    let long = listed-length l n in
    ⊎_elim (λ (e : k ≡ suc n). rw e (take_all (suc n) (listed l (suc n)) (omega (arith, listed-length l (suc n)))))
    (λ (m : k < suc n). take-append-le k (listed l n) _ (omega arith) ∙ listed_front l n k (le_of_suc-le-suc m)) (eq-or-lt_of_le h)

pub listed-take : (l : List ℕ) (n k : ℕ) → listed l (min n k) ≡ take k (listed l n)
listed-take l n k =
    let long = listed-length l n in
    ⊎_elim
    (λ (h : k < n). let least : min n k ≡ k = omega arith in ap (listed l) least ∙ sym (listed_front l n k (omega arith)))
    (λ (h : n ≤ k). let least : min n k ≡ n = omega arith in ap (listed l) least ∙ sym (take_all k (listed l n) (omega arith)))
    (lt_or_le k n)

-- Entry number i of the first k.
pub listed_at : (l : List ℕ) (k i : ℕ) → i < k → (other : Entry) → get_or (listed l k) i other ≡ entry_at l i
unfolding listed
listed_at l zero i h other = absurd (not-suc-le-zero h)
listed_at l (suc k) i h other =
    let long = listed-length l k in
    ⊎_elim
    (λ e. subst (λ (n : ℕ). get_or (listed l k ++ (entry_at l k ∷ [])) n other ≡ entry_at l n) (long ∙ sym e)
    (get_or-append_seam (listed l k) (entry_at l k) [] other ∙ ap (entry_at l) (sym long)))
    (λ m. get_or-append (listed l k) (entry_at l k ∷ []) other i (omega arith) ∙ listed_at l k i m other)
    (eq-or-lt_of_le (le_of_suc-le-suc h))
