-- The table of neighbours: it has the disks of a set, and a disk is put in or taken out.
-- Assumes nothing.
use mathlib.Core.Path.{◌≡◌, refl, sym, ◌∙◌, ap, ap₂}
use mathlib.Core.Bool.{Bool, true, false, cond, not, ◌&&◌, ◌||◌, and-false, or-false}
use mathlib.Core.Logic.{◌⊎◌, inl, inr, ⊎_elim}
use mathlib.Core.List.{List}
use Prim.Native.Nat.{ℕ, ◌+◌, ◌/◌, ◌%◌, ◌^◌, ◌≤◌, ◌<◌, zero-le}
use native.Mathlib.Nat.{le_refl}
use native.Mathlib.Omega.{arith}
use borrow.Author.Tests.{eqb-true, eqb-false, eq-eqb, ne_eqb}
use lib.Dec.{eqb, ltb}
use lib.ListN.{length, get_or, set, length-set}
use lib.Seq.{get_or-set_same, get_or-set_other}
use Rattle.stripes.specs.Fold.{◌⊕◌, bit}
use Rattle.stripes.specs.System.{Layout, TwoStripes, among, on, other_than}
use Rattle.stripes.specs.Erased.{below}
use Rattle.stripes.proofs.Fold.{by_cases, and_left, and_right, and_both, same_test, eqb_comm, count_ext}
use Rattle.stripes.proofs.Degree.{on_which, other-first, other_second}
use Rattle.stripes.proofs.Erased.{below_is, below-not, below_all, below_over, below_last}
use Rattle.stripes.proofs.Peel.{without_other}
use Rattle.model.specs.Grid.{grid, layout_of, across}
use Rattle.model.specs.declared.Size.{Size}
use Rattle.model.proofs.Grid.{disk_is}
use Rattle.layout.specs.Stripe.{Numbered}
use Rattle.tally.proofs.Counted.{Crossed}
use Rattle.reach.specs.Reached.{has, some, next_in, word_stripes}
use Rattle.reach.proofs.Steps.{some-none}
use Rattle.reach.proofs.Words.{has-none, has_one, has_xor}
use Rattle.neighbours.specs.Near.{meets, Near, toggled, Met}
use Rattle.neighbours.proofs.Meeting.{meets_is, meets_of}

-- ---- disks that lie on the same two stripes

-- There are no two such disks.
abbrev pub Apart : Layout → Type 0
Apart L = (d i : ℕ) → d < L.disks → i < L.disks → L.through d ≡ L.through i → d ≡ i

-- A disk of a grid is told by its row and its column.
pub grid-apart : {z : Size} {base : ℕ} → Numbered z base → Apart (layout_of z base)
unfolding layout_of grid across
grid-apart {z} {base} n d i l w same =
    let row : d / across z ≡ i / across z = cc in
    let stripe : base + d % across z ≡ base + i % across z = cc in
    let column : d % across z ≡ i % across z = omega arith in
    disk_is z d ∙ (cc) ∙ sym (disk_is z i)

-- Disk d lies on stripe s, and on stripe t besides.
abbrev pub over : Layout → (d s t : ℕ) → Bool
over L d s t = on L d s && eqb (other_than s (L.through d)) t

module _ (L : Layout) (two : TwoStripes L) where
  -- So s and t are its two stripes, in one order or the other.
  pub over_which : (d s t : ℕ) → d < L.disks → over L d s t ≡ true
      → ((s ≡ two.low d) × (t ≡ two.high d)) ⊎ ((s ≡ two.high d) × (t ≡ two.low d))
  over_which d s t l h =
      let there : on L d s ≡ true = and_left (on L d s) (eqb (other_than s (L.through d)) t) h in
      let next : other_than s (L.through d) ≡ t = eqb-true _ t (and_right (on L d s) (eqb (other_than s (L.through d)) t) h) in
      let apart : two.high d ≡ two.low d → ⊥ = λ q. let less = two.order d l in omega arith in
      ⊎_elim
      (λ (q : s ≡ two.low d). inl (q, sym next ∙ ap₂ other_than q (two.two d l) ∙ other-first (two.low d) (two.high d) apart))
      (λ (q : s ≡ two.high d). inr (q, sym next ∙ ap₂ other_than q (two.two d l) ∙ other_second (two.low d) (two.high d) apart))
      (on_which L two d l s there)

  -- Two disks from s to t lie on the same stripes.
  pub over_same : (d i s t : ℕ) → d < L.disks → i < L.disks → over L d s t ≡ true → over L i s t ≡ true → L.through d ≡ L.through i
  over_same d i s t l w p q =
      let mine = two.two d l in
      let own = two.two i w in
      let less = two.order d l in
      let more = two.order i w in
      ⊎_elim
      (λ (a, b). ⊎_elim (λ (x, y). cc) (λ (x, y). absurd (omega arith)) (over_which i s t w q))
      (λ (a, b). ⊎_elim (λ (x, y). absurd (omega arith)) (λ (x, y). cc) (over_which i s t w q))
      (over_which d s t l p)

  -- So the disk alone says whether a disk of the set leads from s to t.
  meets-one : Apart L → (c : ℕ → Bool) (d s t : ℕ) → d < L.disks → over L d s t ≡ true → meets L c s t ≡ c d
  meets-one apart c d s t l h =
      same_test (meets L c s t) (c d)
      (λ m.
      let met : Met L c s t = meets_is L c s t m in
      let same : d ≡ met.disk =
      apart d met.disk l met.inside
      (over_same d met.disk s t l met.inside h (and_both met.here (eq-eqb _ t met.next))) in
      ap c same ∙ met.held)
      (λ q.
      meets_of L c s t d l q (and_left (on L d s) (eqb (other_than s (L.through d)) t) h)
      (eqb-true _ t (and_right (on L d s) (eqb (other_than s (L.through d)) t) h)))

-- ---- sets with the same disks

-- Tests that are equal below n hold of some number there alike,
pub some_same : (n : ℕ) {t u : ℕ → Bool} → ((i : ℕ) → i < n → t i ≡ u i) → some n t ≡ some n u
unfolding some
some_same n same = ap (λ (k : ℕ). ltb 0 k) (count_ext n same)

-- so sets with the same disks from s to t meet there alike,
meets_ext : (L : Layout) (c e : ℕ → Bool) (s t : ℕ) → ((i : ℕ) → i < L.disks → (c i && over L i s t) ≡ (e i && over L i s t))
    → meets L c s t ≡ meets L e s t
unfolding meets
meets_ext L c e s t same = some_same L.disks same

-- and sets with the same disks of the layout have the same table.
pub near_same : (L : Layout) {c e : ℕ → Bool} {near : List ℕ} → ((i : ℕ) → i < L.disks → c i ≡ e i) → Near L c near → Near L e near
near_same L {c} {e} same n =
    record {
      room = n.room;
      next = λ s t l. n.next s t l ∙ meets_ext L c e s t (λ i w. ap (λ (b : Bool). b && over L i s t) (same i w));
    }

-- ---- a disk is put in, or taken out

-- What that does to the test for two stripes.
flip : (there old : Bool) → Bool
flip there old = cond there (not old) old

-- Only the stripes of the disk itself meet otherwise than before.
meets-toggled : (L : Layout) → TwoStripes L → Apart L → (c e : ℕ → Bool) (d : ℕ) → d < L.disks → e d ≡ not (c d)
    → ((i : ℕ) → (i ≡ d → ⊥) → e i ≡ c i) → (s t : ℕ) → flip (over L d s t) (meets L c s t) ≡ meets L e s t
unfolding flip
meets-toggled L two apart c e d l new old s t =
    by_cases (λ (b : Bool). over L d s t ≡ b → flip b (meets L c s t) ≡ meets L e s t) (over L d s t)
    (λ _ h. ap not (meets-one L two apart c d s t l h) ∙ sym new ∙ sym (meets-one L two apart e d s t l h))
    (λ _ h.
    meets_ext L c e s t
    (λ i w.
    by_cases (λ (b : Bool). eqb i d ≡ b → (c i && over L i s t) ≡ (e i && over L i s t)) (eqb i d)
    (λ _ q.
    let none : over L i s t ≡ false = ap (λ (j : ℕ). over L j s t) (eqb-true i d q) ∙ h in
    ap (λ (b : Bool). c i && b) none ∙ and-false (c i) ∙ sym (ap (λ (b : Bool). e i && b) none ∙ and-false (e i)))
    (λ _ q. ap (λ (b : Bool). b && over L i s t) (sym (old i (eqb-false i d q)))) refl))
    refl

-- A stripe put into a set, or taken out.
has-toggled : (set b t : ℕ) → has (set ⊕ 2 ^ b) t ≡ flip (eqb b t) (has set t)
unfolding ◌⊕◌ flip
has-toggled set b t =
    has_xor set (2 ^ b) t ∙ ap (λ (x : Bool). cond (has set t) (not x) x) (has_one b t ∙ eqb_comm t b) ∙ either (has set t) (eqb b t)
  where
    either : (x y : Bool) → cond x (not y) y ≡ cond y (not x) x
    either true true = refl
    either true false = refl
    either false true = refl
    either false false = refl

-- One place of the table so changed.
next-toggled : (near : List ℕ) (a b : ℕ) → a < length near → (s t : ℕ)
    → next_in (set near a (get_or near a 0 ⊕ 2 ^ b)) s t ≡ flip (eqb s a && eqb b t) (next_in near s t)
unfolding next_in flip
next-toggled near a b l s t =
    by_cases (λ (x : Bool). eqb s a ≡ x → next_in (set near a (get_or near a 0 ⊕ 2 ^ b)) s t ≡ flip (x && eqb b t) (next_in near s t)) (eqb s a)
    (λ _ q.
    rw (eqb-true s a q)
    (ap (λ (x : ℕ). has x t) (get_or-set_same near a (get_or near a 0 ⊕ 2 ^ b) 0 l) ∙ has-toggled (get_or near a 0) b t))
    (λ _ q. ap (λ (x : ℕ). has x t) (get_or-set_other near a s (get_or near a 0 ⊕ 2 ^ b) 0 (eqb-false s a q)))
    refl

-- The two stripes of a disk are not the same, so at most one of its two places in the table is changed for a stripe.
module _ {L : Layout} {d low high : ℕ} (x : Crossed L d low high) where
  low-apart : high ≡ low → ⊥
  unfolding bit
  low-apart q = let one : bit (eqb high low) ≡ 1 = ap bit (eq-eqb high low q) in let none = x.apart in omega arith

  once : (s : ℕ) → eqb s low ≡ true → eqb s high ≡ false
  once s h = ne_eqb s high (λ q. low-apart (sym q ∙ eqb-true s low h))

  over-is : (s t : ℕ) → over L d s t ≡ cond (eqb s low) (eqb high t) (eqb s high && eqb low t)
  unfolding on among other_than
  over-is s t =
      ap (λ (l : List ℕ). among s l && eqb (other_than s l) t) x.listed
      ∙ ap₂ (λ (a b : Bool). (eqb s low || (eqb s high || false)) && eqb (cond a (cond b 0 high) low) t) (eqb_comm low s) (eqb_comm high s)
      ∙ either (eqb s low) (eqb s high) (once s)
    where
      either : (a b : Bool) → (a ≡ true → b ≡ false)
          → ((a || (b || false)) && eqb (cond a (cond b 0 high) low) t) ≡ cond a (eqb high t) (b && eqb low t)
      either true b h = ap (λ (y : Bool). eqb (cond y 0 high) t) (h refl)
      either false b h = ap (λ (y : Bool). y && eqb low t) (or-false b)

  toggled-next : (near : List ℕ) → low < length near → high < length near → (s t : ℕ)
      → next_in (toggled near low high) s t ≡ flip (over L d s t) (next_in near s t)
  unfolding toggled flip
  toggled-next near first second s t =
      let next : List ℕ = set near low (get_or near low 0 ⊕ 2 ^ high) in
      let long : length next ≡ length near = length-set near low (get_or near low 0 ⊕ 2 ^ high) in
      next-toggled next high low (omega arith) s t
      ∙ ap (flip (eqb s high && eqb low t)) (next-toggled near low high first s t)
      ∙ both (eqb s low) (eqb s high) (eqb high t) (eqb low t) (next_in near s t) (once s)
      ∙ ap (λ (b : Bool). flip b (next_in near s t)) (sym (over-is s t))
    where
      both : (a b p q old : Bool) → (a ≡ true → b ≡ false) → flip (b && q) (flip (a && p) old) ≡ flip (cond a p (b && q)) old
      both true b p q old h = ap (λ (y : Bool). flip (y && q) (flip p old)) (h refl)
      both false b p q old h = refl

-- So the table with a disk put in or taken out is that of the set so changed.
pub near_toggle : (L : Layout) → TwoStripes L → Apart L → L.stripe_bound ≤ word_stripes → {c e : ℕ → Bool} {near : List ℕ} → Near L c near
    → {d low high : ℕ} → Crossed L d low high → e d ≡ not (c d) → ((i : ℕ) → (i ≡ d → ⊥) → e i ≡ c i)
    → {after : List ℕ} → after ≡ toggled near low high → Near L e after
unfolding toggled
near_toggle L two apart room {c} {e} {near} n {d} {low} {high} x new old is =
    let long = n.room in
    let low-room = x.low_bound in
    let high-room = x.high_bound in
    record {
      room = ap length is ∙ simp length-set long;
      next = λ s t l.
          ap (λ (m : List ℕ). next_in m s t) is ∙ toggled-next x near (omega arith) (omega arith) s t
          ∙ ap (flip (over L d s t)) (n.next s t l) ∙ meets-toggled L two apart c e d x.disk new old s t;
    }

-- Whether a disk is in the set is read at its own stripes.
pub near_own : (L : Layout) → TwoStripes L → Apart L → L.stripe_bound ≤ word_stripes → {c : ℕ → Bool} {near : List ℕ} → Near L c near
    → {d low high : ℕ} → Crossed L d low high → next_in near low high ≡ c d
near_own L two apart room {c} n {d} {low} {high} x =
    let low-room = x.low_bound in
    n.next low high (omega arith)
    ∙ meets-one L two apart c d low high x.disk
    (over-is x low high
    ∙ ap₂ (λ (a b : Bool). cond a b (eqb low high && eqb low high)) (eq-eqb low low refl) (eq-eqb high high refl))

-- ---- the disks of a set, one after the other

-- A table of zeros has none.
pub near_none : (L : Layout) (e : ℕ → Bool) (near : List ℕ) → length near ≡ word_stripes
    → ((s : ℕ) → s < word_stripes → get_or near s 0 ≡ 0) → Near L (below 0 e) near
unfolding next_in meets
near_none L e near long zeros =
    record {
      room = long;
      next = λ s t l.
          ap (λ (x : ℕ). has x t) (zeros s l) ∙ has-none t
          ∙ sym (some-none L.disks (λ i. ap (λ (b : Bool). b && over L i s t) (below-not 0 e i zero-le)));
    }

module _ (L : Layout) (e : ℕ → Bool) {near : List ℕ} where
  -- Disks that are not in the set are passed over.
  pub near_over : (j k : ℕ) → j ≤ k → ((i : ℕ) → j ≤ i → i < k → e i ≡ false) → Near L (below j e) near → Near L (below k e) near
  near_over j k le none n = rw (below_over j k e le none) n

  -- The next one is put in.
  pub near_next : TwoStripes L → Apart L → L.stripe_bound ≤ word_stripes → {d low high : ℕ} → Crossed L d low high → e d ≡ true
      → Near L (below d e) near → {after : List ℕ} → after ≡ toggled near low high → Near L (below (d + 1) e) after
  near_next two apart room {d} x here n is =
      near_toggle L two apart room n x (below_is (d + 1) e d (omega arith) here ∙ sym (ap not (below-not d e d (le_refl d))))
      (λ i q. sym (ap (λ (c : ℕ → Bool). c i) (below_last d e) ∙ without_other (below (d + 1) e) d i q)) is

  -- After the last one all are in it.
  pub near_all : (k : ℕ) → ((i : ℕ) → k ≤ i → e i ≡ false) → Near L (below k e) near → Near L e near
  near_all k none n = rw (below_all k e none) at n
