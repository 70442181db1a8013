-- Texts written one behind the other.
-- Assumes nothing.
use mathlib.Core.Path.{◌≡◌, refl, sym, ◌∙◌, ap, ap₂, subst}
use mathlib.Core.Logic.{⊎_elim}
use mathlib.Core.List.{List, [], ◌∷◌, ◌++◌, append_assoc}
use Prim.Native.Nat.{ℕ, suc, ◌+◌, ◌-◌, ◌/◌, ◌%◌, ◌≤◌, ◌<◌}
use native.Mathlib.Nat.{add-zero, zero-add, add-suc, suc-add}
use native.Mathlib.Omega.{arith}
use borrow.Author.Tests.{lt-ltb, le-ltb}
use borrow.Rule.Slice.PartMut.{put_mid, Post-is}
use lib.ListN.{length, set, take, drop, replicate, length-append, length-replicate}
use lib.Seq.{sets, length-sets, sets-eq, take_at, drop_at}
use Rattle.std.proofs.lemmas.List.{drop-replicate}
use Rattle.model.specs.Listing.{digit, decimal}
use Rattle.stripes.proofs.Fold.{lt_or_le}
use Rattle.text.specs.Lines.{word_line, pair_line}
use Rattle.text.specs.Written.{Written}

sets_append : (b : List ℕ) (i : ℕ) (s t : List ℕ) → sets b i (s ++ t) ≡ sets (sets b i s) (i + length s) t
sets_append b i [] t = ap (λ (k : ℕ). sets b k t) (sym (add-zero i))
sets_append b i (x ∷ s) t =
    sets_append (set b i x) (suc i) s t
    ∙ ap (λ (k : ℕ). sets (sets (set b i x) (suc i) s) k t) (suc-add i (length s) ∙ sym (add-suc i (length s)))

pub same-room : {b c s : List ℕ} {i j : ℕ} → Written b i s c j → length c ≡ length b
same-room {b} {c} {s} {i} {j} p = ap length p.bytes ∙ length-sets b i s

pub nothing_written : (b : List ℕ) (i : ℕ) → i ≤ length b → Written b i [] b i
nothing_written b i h = record { bytes = refl; end = sym (add-zero i); within = h }

pub both_written : {b c d s t : List ℕ} {i j k : ℕ} → Written b i s c j → Written c j t d k → Written b i (s ++ t) d k
both_written {b} {c} {d} {s} {t} {i} {j} {k} p q =
    let one = p.end in
    let two = q.end in
    let room = same-room p in
    let here = q.within in
    record {
      bytes = q.bytes ∙ ap₂ (λ (l : List ℕ) (n : ℕ). sets l n t) p.bytes p.end ∙ sym (sets_append b i s t);
      end = let long = length-append s t in omega arith;
      within = omega arith;
    }

-- The same text in other words.
pub written_as : {b c s t : List ℕ} {i j : ℕ} → s ≡ t → Written b i s c j → Written b i t c j
written_as {b} {c} {s} {t} {i} {j} e p = subst (λ (t : List ℕ). Written b i t c j) e p

-- A text copied into a part of the buffer that is as long.
pub part_written : (b : List ℕ) (at : ℕ) (s : List ℕ) → at + length s ≤ length b → put_mid at (at + length s - at) b s ≡ sets b at s
part_written b at s h =
    ap (λ (rest : List ℕ). take at b ++ (s ++ rest)) (Post-is at (at + length s) b (omega arith))
    ∙ sym (append_assoc (take at b) s _) ∙ sym (sets-eq s b at h)

-- A text at the start of a buffer of zeros.
pub written-alone : (n : ℕ) {t c : List ℕ} {j : ℕ} → Written (replicate n 0) 0 t c j
    → (take j c ≡ t) × (drop j c ≡ replicate (n - j) 0) × (j ≤ n)
written-alone n {t} {c} {j} p =
    let zeros : List ℕ = replicate n 0 in
    let long : length zeros ≡ n = length-replicate n 0 in
    let end : j ≡ length t = p.end ∙ zero-add (length t) in
    let inside = p.within in
    let whole : c ≡ t ++ drop (0 + length t) zeros = p.bytes ∙ sets-eq t zeros 0 (omega arith) in (
      ap (take j) whole ∙ take_at t _ j (sym end),
      ap (drop j) whole ∙ drop_at t _ j (sym end) ∙ ap (λ (k : ℕ). drop k zeros) (zero-add (length t) ∙ sym end) ∙ drop-replicate j n 0,
      omega arith,
    )

-- ---- numbers
pub decimal_ones : (k : ℕ) → k < 10 → digit k ∷ [] ≡ decimal k
unfolding decimal
decimal_ones k h = rw (lt-ltb k 10 h)

pub decimal_tens : (k : ℕ) → 10 ≤ k → k < 100 → digit (k / 10) ∷ digit (k % 10) ∷ [] ≡ decimal k
unfolding decimal
decimal_tens k l h = rw (le-ltb k 10 l, lt-ltb k 100 h)

pub decimal_hundreds : (k : ℕ) → 100 ≤ k → digit (k / 100) ∷ digit (k / 10 % 10) ∷ digit (k % 10) ∷ [] ≡ decimal k
unfolding decimal
decimal_hundreds k l = let m : 10 ≤ k = omega arith in rw (le-ltb k 10 m, le-ltb k 100 l)

pub decimal-length : (k : ℕ) → length (decimal k) ≤ 3
decimal-length k =
    ⊎_elim (λ (h : k < 10). let e = ap length (decimal_ones k h) in omega arith)
    (λ (l : 10 ≤ k).
    ⊎_elim (λ (h : k < 100). let e = ap length (decimal_tens k l h) in omega arith)
    (λ (m : 100 ≤ k). let e = ap length (decimal_hundreds k m) in omega arith) (lt_or_le k 100))
    (lt_or_le k 10)

-- So a number ends at most three places behind its first digit.
pub number-ends : (k : ℕ) {b c : List ℕ} {i j : ℕ} → Written b i (decimal k) c j → j ≤ i + 3
number-ends k p = let short = decimal-length k in let end = p.end in omega arith

-- ---- lines
pub word-length : (word : List ℕ) (k : ℕ) → length (word_line word k) ≤ length word + 4
unfolding word_line
word-length word k = let short = decimal-length k in simp length-append (omega arith)

pub pair_length : (a b : ℕ) → length (pair_line a b) ≤ 8
unfolding pair_line
pair_length a b =
    let short = decimal-length a in
    let short₂ = decimal-length b in
    simp length-append (omega arith)
