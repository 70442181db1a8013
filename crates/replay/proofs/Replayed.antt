-- A list of repairs from elsewhere, judged turn by turn on the working map.
-- Assumes nothing.
use mathlib.Core.Path.{◌≡◌, refl, sym, ◌∙◌, ap₂}
use mathlib.Core.Bool.{Bool, true, false, and-false}
use mathlib.Core.Logic.{⊎_elim}
use mathlib.Core.List.{List}
use Prim.Native.Nat.{ℕ, zero, suc, ◌+◌, ◌≤◌, ◌<◌}
use native.Mathlib.Nat.{eq-or-lt_of_le, le_of_suc-le-suc}
use native.Mathlib.Numerals.{add-one}
use native.Mathlib.Omega.{arith}
use borrow.Author.Tests.{ne_eqb}
use lib.Dec.{eqb}
use lib.ListN.{get_or}
use Rattle.stripes.specs.Fold.{count, bit}
use Rattle.stripes.specs.System.{Layout, on}
use Rattle.stripes.specs.Erased.{erasures, without}
use Rattle.stripes.specs.Repair.{allowed, after, all_allowed, clears}
use Rattle.stripes.proofs.Fold.{bit-zero}
use Rattle.stripes.proofs.Peel.{after_snoc}
use Rattle.stripes.proofs.Clears.{all_allowed_snoc, clears-count}
use Rattle.stripes.proofs.Alone.{allowed-first, allowed_second}
use Rattle.entries.specs.Listed.{entry_disk, entry_stripe, listed}
use Rattle.entries.proofs.Words.{listed-length}
use Rattle.tally.specs.Tally.{Counted, Tallied}
use Rattle.tally.proofs.Counted.{low_held, high_held, Crossed}

-- ---- one repair of an erased disk: the counts on its two stripes decide, and no other stripe serves
module _ {L : Layout} {d low high : ℕ} (x : Crossed L d low high) {e : ℕ → Bool} {counts : List ℕ} (k : Counted L e counts)
    (erased : e d ≡ true) {s : ℕ} where
  pub by_low : s ≡ low → eqb (get_or counts low 0) 1 ≡ allowed L e d s
  by_low q = simp (q, (low_held x k).1) (sym (allowed-first L e d x.disk erased low high x.listed))

  pub by_high : s ≡ high → eqb (get_or counts high 0) 1 ≡ allowed L e d s
  by_high q = simp (q, (high_held x k).1) (sym (allowed_second L e d x.disk erased low high x.listed))

  pub by_neither : (s ≡ low → ⊥) → (s ≡ high → ⊥) → false ≡ allowed L e d s
  unfolding allowed bit
  by_neither p q =
      let off : on L d s ≡ false = bit-zero _ (x.bits s ∙ ap₂ (λ (a b : Bool). bit a + bit b) (ne_eqb s low p) (ne_eqb s high q)) in
      sym (simp (off, and-false))

-- ---- turn by turn

-- Where the first k are not all allowed, no more of them are.
module _ (L : Layout) (e : ℕ → Bool) (list : List ℕ) (k : ℕ) (refused : all_allowed L e (listed list k) ≡ false) where
  more_refused : (n : ℕ) → k ≤ n → all_allowed L e (listed list n) ≡ false
  unfolding listed
  more_refused zero l = let none : k ≡ 0 = omega arith in rw none at refused
  more_refused (suc n) l =
      ⊎_elim (λ q. rw q at refused) (λ m. simp (all_allowed_snoc, more_refused n (le_of_suc-le-suc m))) (eq-or-lt_of_le l)

-- After k entries, each allowed at its step: what is still erased, tallied.
pub record Replayed (L : Layout) (e : ℕ → Bool) (list work stripes counts : List ℕ) (k : ℕ) : Type 0 where
  pub tallied : Tallied L work stripes counts
  pub left : erasures work ≡ after e (listed list k)
  pub fair : all_allowed L e (listed list k) ≡ true

pub replayed_none : {L : Layout} (list : List ℕ) {work stripes counts : List ℕ} → Tallied L work stripes counts
    → Replayed L (erasures work) list work stripes counts 0
unfolding listed after all_allowed
replayed_none list tallied = record { tallied = tallied; left = refl; fair = refl }

module _ {L : Layout} {e : ℕ → Bool} {list work stripes counts : List ℕ} {k : ℕ} (turn : Replayed L e list work stripes counts k) where
  -- The next entry is judged by what is still erased.
  module _ (d s : ℕ) (disk : d ≡ entry_disk list k) (stripe : s ≡ entry_stripe list k) where
    fair-next : all_allowed L e (listed list (k + 1)) ≡ allowed L (erasures work) d s
    unfolding listed
    fair-next = simp (add-one, all_allowed_snoc, turn.fair, sym turn.left, disk, stripe)

    pub replayed_next : allowed L (erasures work) d s ≡ true → {work' counts' : List ℕ} → Tallied L work' stripes counts'
        → erasures work' ≡ without (erasures work) d → Replayed L e list work' stripes counts' (k + 1)
    unfolding listed
    replayed_next may tallied' left' =
        record { tallied = tallied'; left = left' ∙ simp (add-one, after_snoc, turn.left, disk); fair = fair-next ∙ may }

    pub replayed_refused : allowed L (erasures work) d s ≡ false → (n : ℕ) → k < n → false ≡ all_allowed L e (listed list n)
    replayed_refused refused n l = sym (more_refused L e list (k + 1) (fair-next ∙ refused) n (omega arith))

-- Where each is allowed, the number of erased disks decides; else no more is needed.
module _ (L : Layout) (e : ℕ → Bool) (list : List ℕ) (n : ℕ) where
  pub clears_all : all_allowed L e (listed list n) ≡ true → (erased : ℕ) → erased ≡ count L.disks e → eqb n erased ≡ clears L e (listed list n)
  clears_all fair erased all = simp all (sym (clears-count L e (listed list n) fair ∙ simp listed-length))

  pub clears-not : all_allowed L e (listed list n) ≡ false → false ≡ clears L e (listed list n)
  unfolding clears
  clears-not refused = sym (simp refused)
