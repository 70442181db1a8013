-- The laws of the tables of parts and of ways.
-- Assumes nothing.
use mathlib.Core.Path.{◌≡◌, refl, sym, ◌∙◌, ap, ap₂}
use mathlib.Core.Bool.{Bool, true, false}
use mathlib.Core.Logic.{⊎_elim}
use mathlib.Core.List.{List}
use Prim.Native.Nat.{ℕ, zero, suc, ◌+◌, ◌^◌, ◌≤◌, ◌<◌}
use native.Mathlib.Nat.{eq-or-lt_of_le, le_of_suc-le-suc, lt-suc_self, le_step, le_refl}
use native.Mathlib.Numerals.{add-one}
use native.Mathlib.Omega.{arith}
use borrow.Author.Tests.{eq-eqb, ne_eqb, eqb-false}
use lib.Bits.{bit_or}
use lib.Dec.{eqb}
use lib.ListN.{length, get_or}
use Rattle.stripes.specs.Fold.{◌⊕◌, gate}
use Rattle.stripes.specs.System.{Layout, TwoStripes, lower, higher, first_of, other_than}
use Rattle.stripes.specs.Erased.{erasures}
use Rattle.stripes.specs.Joined.{united, part_by}
use Rattle.stripes.proofs.Fold.{bit-zero}
use Rattle.stripes.proofs.Degree.{other-first}
use Rattle.stripes.proofs.Joined.{part-united, part-kept, part-bound}
use Rattle.tally.specs.Tally.{Table}
use Rattle.tally.proofs.Counted.{Crossed}
use Rattle.parts.specs.Parted.{Values, Parted}
use Rattle.parts.specs.Ways.{joined_before, between, longer, way_by, closed_by, Walked}
use Rattle.parts.proofs.Ways.{way_link, way_kept, part-closed, closed-kept}

-- ---- the two stripes of a disk
module _ {L : Layout} {d low high : ℕ} (x : Crossed L d low high) where
  pub lower_crossed : lower L d ≡ low
  unfolding first_of
  lower_crossed = ap first_of x.listed

  pub higher_crossed : higher L d ≡ high
  higher_crossed = ap₂ other_than lower_crossed x.listed ∙ other-first low high (eqb-false high low (bit-zero (eqb high low) x.apart))

  -- Both have a place in a table of n numbers.
  pub crossed_places : {n : ℕ} → L.stripe_bound ≤ n → (low < n) × (high < n)
  crossed_places fits = let l = x.low_bound in let h = x.high_bound in (omega arith, omega arith)

-- ---- the first disks
pub parted-none : {L : Layout} (e : ℕ → Bool) {parts : List ℕ} → L.stripe_bound ≤ length parts → {n : ℕ} → n ≡ L.stripe_bound
    → Values (λ s. s) n parts → Parted L e 0 parts
unfolding part_by
parted-none e fits is names = record { stripes_fit = fits; named = λ s l. names s (omega arith) }

pub walked_none : {L : Layout} (e : ℕ → Bool) {ways : List ℕ} → L.stripe_bound ≤ length ways → {n : ℕ} → n ≡ L.stripe_bound
    → Values (λ s. 0) n ways → Walked L e 0 ways
unfolding way_by
walked_none e fits is names = record { stripes_fit = fits; walked = λ s l. names s (omega arith) }

-- ---- one disk more
module _ {L : Layout} {e : ℕ → Bool} {k low high : ℕ} (here : e k ≡ true) (x : Crossed L k low high) {parts : List ℕ}
    (p : Parted L e k parts) where
  -- Its two parts become one.
  pub parted-next : {after : List ℕ} → length after ≡ length parts → {n : ℕ} → n ≡ L.stripe_bound
      → Values (united low high (λ s. get_or parts s 0)) n after → Parted L e (k + 1) after
  unfolding united
  parted-next same bound names =
      record {
        stripes_fit = let fits = p.stripes_fit in omega arith;
        named = λ s b.
            names s (omega arith)
            ∙ rw (
              p.named s b,
              p.named low x.low_bound,
              p.named high x.high_bound,
              add-one k,
              part-united L e k here,
              higher_crossed x,
              lower_crossed x,
            );
      }

module _ {L : Layout} {e : ℕ → Bool} {k low high : ℕ} (here : e k ≡ true) (x : Crossed L k low high) {parts ways : List ℕ}
    (p : Parted L e k parts) (w : Walked L e k ways) where
  -- What the tables say of it.
  read-joined : eqb (get_or parts low 0) (get_or parts high 0) ≡ joined_before L e k
  read-joined =
      ap₂ eqb (p.named low x.low_bound ∙ ap (part_by L e k) (sym (lower_crossed x))) (p.named high x.high_bound ∙ ap (part_by L e k) (sym (higher_crossed x)))

  read_between : get_or ways low 0 ⊕ get_or ways high 0 ≡ between L (way_by L e k) k
  read_between =
      ap₂ (λ (a b : ℕ). a ⊕ b) (w.walked low x.low_bound ∙ ap (way_by L e k) (sym (lower_crossed x))) (w.walked high x.high_bound ∙ ap (way_by L e k) (sym (higher_crossed x)))

  -- It closes a cycle, and the tables stay.
  module _ (same : get_or parts low 0 ≡ get_or parts high 0) where
    joins : joined_before L e k ≡ true
    joins = sym read-joined ∙ eq-eqb _ _ same

    pub parted-closed : Parted L e (k + 1) parts
    parted-closed = rw (add-one k) (record { stripes_fit = p.stripes_fit; named = λ s l. p.named s l ∙ sym (part-closed L e k joins s) })

    pub walked-closed : Walked L e (k + 1) ways
    walked-closed =
        rw (add-one k)
        (record { stripes_fit = w.stripes_fit; walked = λ s l. w.walked s l ∙ ap (λ (way : ℕ → ℕ). way s) (sym (way_kept L e k (rw (here, joins) refl))) })

    pub answer-closed : get_or ways low 0 ⊕ get_or ways high 0 ≡ gate (joined_before L e k) (between L (way_by L e k) k)
    unfolding gate
    answer-closed = read_between ∙ rw joins refl

  -- It is a link, and ways go on over it.
  module _ (apart : get_or parts low 0 ≡ get_or parts high 0 → ⊥) where
    off : joined_before L e k ≡ false
    off = sym read-joined ∙ ne_eqb _ _ apart

    pub walked_next : {after : List ℕ} → length after ≡ length ways → {n : ℕ} → n ≡ L.stripe_bound → {link : ℕ} → link ≡ 2 ^ get_or parts high 0
        → Values (λ s. get_or ways s 0 ⊕ gate (eqb (get_or parts s 0) (get_or parts high 0)) (get_or ways low 0 ⊕ get_or ways high 0 ⊕ link)) n after
        → Walked L e (k + 1) after
    unfolding longer
    walked_next same bound is names =
        record {
          stripes_fit = let fits = w.stripes_fit in omega arith;
          walked = λ s b.
              names s (omega arith)
              ∙ rw (
                is,
                p.named s b,
                p.named high x.high_bound,
                w.walked s b,
                w.walked low x.low_bound,
                w.walked high x.high_bound,
                add-one k,
                way_link L e k here off,
                higher_crossed x,
                lower_crossed x,
              );
        }

    pub answer_link : 0 ≡ gate (joined_before L e k) (between L (way_by L e k) k)
    unfolding gate
    answer_link = rw off refl

-- The name of a part is a stripe's number.
pub name_small : {L : Layout} {e : ℕ → Bool} {k : ℕ} {parts : List ℕ} → Parted L e k parts → TwoStripes L → k ≤ L.disks → (s : ℕ)
    → s < L.stripe_bound → get_or parts s 0 < L.stripe_bound
name_small {L} {e} {k} p two l s b = rw (p.named s b) (part-bound L e two L.stripe_bound (le_refl _) k s l b)

-- ---- going over the erased disks

-- A value that other disks do not change is the same after them.
skip : {A : Type 0} (f : ℕ → A) (j k : ℕ) → j ≤ k → ((i : ℕ) → j ≤ i → i < k → f (suc i) ≡ f i) → f k ≡ f j
skip f j zero l kept = let none : j ≡ 0 = omega arith in rw none
skip f j (suc k) l kept =
    ⊎_elim (λ q. rw q)
    (λ w. kept k (le_of_suc-le-suc w) (lt-suc_self k) ∙ skip f j k (le_of_suc-le-suc w) (λ i m b. kept i m (le_step b))) (eq-or-lt_of_le l)

-- The tables after the first k disks, and the links on cycles.
pub record Linking (L : Layout) (e : ℕ → Bool) (k : ℕ) (parts ways : List ℕ) (links : ℕ) : Type 0 where
  pub parted : Parted L e k parts
  pub walked : Walked L e k ways
  pub closed : links ≡ closed_by L e k

-- What the tables hold is the same after disks that are not of e.
module _ (L : Layout) (e : ℕ → Bool) (j k : ℕ) (l : j ≤ k) (none : (i : ℕ) → j ≤ i → i < k → e i ≡ false) where
  same-part : part_by L e k ≡ part_by L e j
  same-part = skip (part_by L e) j k l (λ i a b. part-kept L e i (none i a b))

  same_way : way_by L e k ≡ way_by L e j
  same_way = skip (way_by L e) j k l (λ i a b. way_kept L e i (rw (none i a b) refl))

  same-closed : closed_by L e k ≡ closed_by L e j
  same-closed = skip (closed_by L e) j k l (λ i a b. closed-kept L e i (none i a b))

module _ {L : Layout} {e : ℕ → Bool} {parts : List ℕ} where
  parted-as : (j k : ℕ) → part_by L e j ≡ part_by L e k → Parted L e j parts → Parted L e k parts
  parted-as j k same p = record { stripes_fit = p.stripes_fit; named = λ s b. p.named s b ∙ ap (λ (f : ℕ → ℕ). f s) same }

  module _ (j k : ℕ) (l : j ≤ k) (none : (i : ℕ) → j ≤ i → i < k → e i ≡ false) where
    -- Disks that are present are passed over, forwards and back.
    pub parted_over : Parted L e j parts → Parted L e k parts
    parted_over = parted-as j k (sym (same-part L e j k l none))

    parted-back : Parted L e k parts → Parted L e j parts
    parted-back = parted-as k j (same-part L e j k l none)

module _ {L : Layout} {e : ℕ → Bool} {parts ways : List ℕ} {links : ℕ} where
  pub linking_none : Parted L e 0 parts → Walked L e 0 ways → links ≡ 0 → Linking L e 0 parts ways links
  unfolding closed_by
  linking_none p w none = record { parted = p; walked = w; closed = none }

  linking-as : (j k : ℕ) → part_by L e j ≡ part_by L e k → way_by L e j ≡ way_by L e k → closed_by L e j ≡ closed_by L e k
      → Linking L e j parts ways links → Linking L e k parts ways links
  linking-as j k part way closed l =
      record {
        parted = parted-as j k part l.parted;
        walked =
            record {
              stripes_fit = l.walked.stripes_fit;
              walked = λ s b. l.walked.walked s b ∙ ap (λ (f : ℕ → ℕ). f s) way;
            };
        closed = l.closed ∙ closed;
      }

  module _ (j k : ℕ) (l : j ≤ k) (none : (i : ℕ) → j ≤ i → i < k → e i ≡ false) where
    pub linking_over : Linking L e j parts ways links → Linking L e k parts ways links
    linking_over = linking-as j k (sym (same-part L e j k l none)) (sym (same_way L e j k l none)) (sym (same-closed L e j k l none))

    linking-back : Linking L e k parts ways links → Linking L e j parts ways links
    linking-back = linking-as k j (same-part L e j k l none) (same_way L e j k l none) (same-closed L e j k l none)

-- An erased disk more.
pub linking_next : {L : Layout} {e : ℕ → Bool} {k : ℕ} {parts ways parts' ways' : List ℕ} {links more : ℕ} → Linking L e k parts ways links → e k ≡ true
    → Parted L e (k + 1) parts' → Walked L e (k + 1) ways' → more ≡ gate (joined_before L e k) (between L (way_by L e k) k)
    → Linking L e (k + 1) parts' ways' (bit_or links more)
unfolding closed_by
linking_next {L} {e} {k} l here p w is =
    record { parted = p; walked = w; closed = rw (add-one k, here, l.closed, is) refl }

-- All disks are behind.
pub linking_all : {L : Layout} {work stripes : List ℕ} → Table L work stripes → {k : ℕ} {parts ways : List ℕ} {links : ℕ} → length work ≤ k
    → Linking L (erasures work) k parts ways links → Linking L (erasures work) L.disks parts ways links
linking_all {L} {work} t {k} end l =
    linking-back L.disks k (let fits = t.disks_fit in omega arith) (λ i a b. t.inside i a) l

pub parted_all : {L : Layout} {work stripes : List ℕ} → Table L work stripes → {k : ℕ} {parts : List ℕ} → length work ≤ k
    → Parted L (erasures work) k parts → Parted L (erasures work) L.disks parts
parted_all {L} {work} t {k} end p = parted-back L.disks k (let fits = t.disks_fit in omega arith) (λ i a b. t.inside i a) p
