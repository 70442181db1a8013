-- The laws of the working map: how the table and the counts change with one disk.
-- Assumes nothing.
use mathlib.Core.Path.{◌≡◌, refl, sym, ◌∙◌, ap, ap₂}
use mathlib.Core.Bool.{Bool, true, false}
use mathlib.Core.List.{List, [], ◌∷◌}
use Prim.Native.Nat.{ℕ, ◌+◌, ◌-◌, ◌*◌, ◌≤◌, ◌<◌}
use native.Mathlib.Omega.{arith}
use native.Mathlib.Nat.{sub-zero, sub-add-eq, add-zero, add_assoc}
use borrow.Author.Tests.{ne_eqb, eqb-true, eqb-false}
use lib.Dec.{eqb}
use lib.ListN.{length, get_or, set, length-set}
use lib.Seq.{get_or-set_same, get_or-set_other}
use Rattle.stripes.specs.Fold.{bit}
use Rattle.stripes.specs.System.{Layout, TwoStripes, on}
use Rattle.stripes.specs.Erased.{erasures, without}
use Rattle.stripes.proofs.Fold.{by_cases}
use Rattle.stripes.proofs.Degree.{degree, degree_without, on-low, on-high, on_bits}
use Rattle.stripes.proofs.Erased.{is_inside, erasures-clear}
use Rattle.stripes.proofs.Peel.{without_sub}
use Rattle.tally.specs.Tally.{Table, Counted, Tallied}

-- ---- a disk and its two stripes
pub record Crossed (L : Layout) (d low high : ℕ) : Type 0 where
  pub disk : d < L.disks
  pub listed : L.through d ≡ low ∷ high ∷ []
  pub low_on : bit (on L d low) ≡ 1
  pub high_on : bit (on L d high) ≡ 1
  pub apart : bit (eqb high low) ≡ 0
  pub low_bound : low < L.stripe_bound
  pub high_bound : high < L.stripe_bound
  pub bits : (s : ℕ) → bit (on L d s) ≡ bit (eqb s low) + bit (eqb s high)

pub crossed : {L : Layout} → TwoStripes L → {d low high : ℕ} → d < L.disks → L.through d ≡ low ∷ high ∷ [] → Crossed L d low high
unfolding bit
crossed {L} two {d} {low} {high} inside listed =
    let both = two.two d inside in
    let l : two.low d ≡ low = cc in
    let h : two.high d ≡ high = cc in
    let order = two.order d inside in
    let most = two.bound d inside in
    record {
      disk = inside;
      listed = listed;
      low_on = ap bit (ap (on L d) (sym l) ∙ on-low L two d inside);
      high_on = ap bit (ap (on L d) (sym h) ∙ on-high L two d inside);
      apart = ap bit (ne_eqb high low (λ q. omega arith));
      low_bound = omega arith;
      high_bound = omega arith;
      bits = λ s. on_bits L two d inside s ∙ ap₂ (λ (x y : ℕ). bit (eqb s x) + bit (eqb s y)) l h;
    }

-- An erased disk is one of the layout, and has its place in the table.
module _ {L : Layout} {work stripes : List ℕ} (t : Table L work stripes) (d : ℕ) (erased : erasures work d ≡ true) where
  pub erased-inside : d < L.disks
  erased-inside = is_inside L.disks (erasures work) t.inside d erased

  pub erased_crossed : TwoStripes L → {low high : ℕ} → L.through d ≡ low ∷ high ∷ [] → Crossed L d low high
  erased_crossed two = crossed two erased-inside

  pub table-place : 2 * d + 1 < length stripes
  table-place = omega (arith, erased-inside, t.disks_fit, t.table_fits)

-- Its stripes have their places in the counts, which say how many disks lie there.
module _ {L : Layout} {d low high : ℕ} (x : Crossed L d low high) {e : ℕ → Bool} {counts : List ℕ} (k : Counted L e counts) where
  pub low_held : (low < length counts) × (get_or counts low 0 ≡ degree L e low)
  unfolding degree
  low_held = let here : low < length counts = omega (arith, x.low_bound, k.stripes_fit) in (here, k.held low here)

  pub high_held : (high < length counts) × (get_or counts high 0 ≡ degree L e high)
  unfolding degree
  high_held = let here : high < length counts = omega (arith, x.high_bound, k.stripes_fit) in (here, k.held high here)

-- ---- counts that change with one disk

-- Sums and differences: nothing changes nothing, and two changes are one.
record Change (f : ℕ → ℕ → ℕ) : Type 0 where
  none : (n : ℕ) → f n 0 ≡ n
  sum : (n i j : ℕ) → f (f n i) j ≡ f n (i + j)

plus : Change (λ n i. n + i)
plus = record { none = add-zero; sum = add_assoc }

minus : Change (λ n i. n - i)
minus = record { none = sub-zero; sum = λ n i j. sym (sub-add-eq n i j) }

-- A list with f done once to number i.
record Stepped (f : ℕ → ℕ → ℕ) (l : List ℕ) (i : ℕ) (l₁ : List ℕ) : Type 0 where
  long : length l₁ ≡ length l
  at : (j : ℕ) → get_or l₁ j 0 ≡ f (get_or l j 0) (bit (eqb j i))

stepped : {f : ℕ → ℕ → ℕ} → Change f → {l : List ℕ} {i : ℕ} {l₁ : List ℕ} → l₁ ≡ set l i (f (get_or l i 0) 1) → i < length l
    → Stepped f l i l₁
unfolding bit
stepped {f} c {l} {i} {l₁} e h =
    let v = f (get_or l i 0) 1 in
    record {
      long = ap length e ∙ length-set l i v;
      at = λ j.
          ap (λ (m : List ℕ). get_or m j 0) e
          ∙ by_cases (λ (b : Bool). eqb j i ≡ b → get_or (set l i v) j 0 ≡ f (get_or l j 0) (bit b)) (eqb j i)
          (λ q w. rw (eqb-true j i w) (get_or-set_same l i v 0 h))
          (λ q w. get_or-set_other l i j v 0 (eqb-false j i w) ∙ sym (c.none (get_or l j 0))) refl;
    }

-- f is done at the lower stripe of a disk, then at the higher.
module _ {f : ℕ → ℕ → ℕ} (c : Change f)
    {L : Layout} {d low high : ℕ} (x : Crossed L d low high) {a : ℕ → Bool} {l : List ℕ} (k : Counted L a l)
    {l₁ : List ℕ} (e₁ : l₁ ≡ set l low (f (get_or l low 0) 1)) where
  first : Stepped f l low l₁
  first = stepped c e₁ (low_held x k).0

  second-place : high < length l₁
  second-place = omega (arith, (high_held x k).0, first.long)

  second-held : get_or l₁ high 0 ≡ degree L a high
  second-held = first.at high ∙ ap (f (get_or l high 0)) x.apart ∙ c.none (get_or l high 0) ∙ (high_held x k).1

  counted_step : {l₂ : List ℕ} → l₂ ≡ set l₁ high (f (get_or l₁ high 0) 1) → (b : ℕ → Bool)
      → ((s : ℕ) → f (degree L a s) (bit (on L d s)) ≡ degree L b s) → Counted L b l₂
  unfolding degree
  counted_step {l₂} e₂ b same =
      let second : Stepped f l₁ high l₂ = stepped c e₂ second-place in
      record {
        stripes_fit = omega (arith, k.stripes_fit, first.long, second.long);
        held = λ s h.
            second.at s ∙ ap (λ (n : ℕ). f n (bit (eqb s high))) (first.at s)
            ∙ c.sum (get_or l s 0) (bit (eqb s low)) (bit (eqb s high))
            ∙ ap₂ f (k.held s (omega (arith, first.long, second.long))) (sym (x.bits s)) ∙ same s;
      }

-- The disks f with disk d, and without it.
module _ {L : Layout} {d low high : ℕ} (x : Crossed L d low high) (f : ℕ → Bool) (has : f d ≡ true) where
  own : (s : ℕ) → degree L (without f d) s + bit (on L d s) ≡ degree L f s
  own s = degree_without L f d s x.disk has

  -- The disk is counted.
  module _ {l : List ℕ} (k : Counted L (without f d) l) (few : (s : ℕ) → degree L f s < 256) where
    pub can_raise : (low < length l) × (get_or l low 0 + 1 < 256)
    can_raise = ((low_held x k).0, omega (arith, (low_held x k).1, own low, few low, x.low_on))

    module _ {l₁ : List ℕ} (e₁ : l₁ ≡ set l low (get_or l low 0 + 1)) where
      pub can_raise_next : (high < length l₁) × (get_or l₁ high 0 + 1 < 256)
      can_raise_next =
          let there = second-held plus x k e₁ in
          (second-place plus x k e₁, omega (arith, own high, few high, x.high_on))

      pub counted_more : {l₂ : List ℕ} → l₂ ≡ set l₁ high (get_or l₁ high 0 + 1) → Counted L f l₂
      counted_more e₂ = counted_step plus x k e₁ e₂ f own

  -- The disk is counted no more.
  module _ {l : List ℕ} (k : Counted L f l) where
    pub can_lower : (low < length l) × (1 ≤ get_or l low 0)
    can_lower = ((low_held x k).0, omega (arith, (low_held x k).1, own low, x.low_on))

    module _ {l₁ : List ℕ} (e₁ : l₁ ≡ set l low (get_or l low 0 - 1)) where
      pub can_lower_next : (high < length l₁) × (1 ≤ get_or l₁ high 0)
      can_lower_next =
          let there = second-held minus x k e₁ in
          (second-place minus x k e₁, omega (arith, own high, x.high_on))

      counted-less : {l₂ : List ℕ} → l₂ ≡ set l₁ high (get_or l₁ high 0 - 1) → Counted L (without f d) l₂
      counted-less e₂ = counted_step minus x k e₁ e₂ (without f d) (λ s. let o = own s in omega arith)

-- ---- a disk is repaired

-- The table serves where fewer disks are erased.
pub table_fewer : {L : Layout} {work stripes : List ℕ} → Table L work stripes → {work' : List ℕ} → length work' ≡ length work
    → ((d : ℕ) → erasures work' d ≡ true → erasures work d ≡ true) → Table L work' stripes
table_fewer {L} {work} t {work'} long sub =
    let disks = t.disks_fit in
    let table = t.table_fits in
    record {
      disks_fit = omega arith;
      table_fits = omega arith;
      inside = λ d l. by_cases (λ (b : Bool). b ≡ false) (erasures work' d) (λ h. sym (sub d h) ∙ t.inside d l) (λ h. refl);
      listed = λ d l h. t.listed d l (sub d h);
    }

pub tallied_less : {L : Layout} {d low high : ℕ} → Crossed L d low high → {work stripes counts : List ℕ} → Tallied L work stripes counts
    → erasures work d ≡ true → {counts₁ counts₂ : List ℕ} → counts₁ ≡ set counts low (get_or counts low 0 - 1)
    → counts₂ ≡ set counts₁ high (get_or counts₁ high 0 - 1)
    → (erasures (set work d 0) ≡ without (erasures work) d) × Tallied L (set work d 0) stripes counts₂
tallied_less {L} {d} x {work} t erased e₁ e₂ =
    let clear = erasures-clear work d in (
      clear,
      record {
        table = table_fewer t.table (length-set work d 0) (λ i h. without_sub (erasures work) d i (ap (λ (e : ℕ → Bool). e i) (sym clear) ∙ h));
        counted = rw clear (counted-less x (erasures work) erased t.counted e₁ e₂);
      },
    )
