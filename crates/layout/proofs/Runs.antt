-- Which stripes a disk lies on, and where the disks of a stripe stand: the laws of `disks_on` and `place_on`.
-- Assumes nothing.
use mathlib.Core.Path.{◌≡◌, refl, sym, ◌∙◌, ap, ap₂, subst}
use mathlib.Core.Bool.{Bool, true, false, ◌&&◌}
use mathlib.Core.Logic.{⊎_elim}
use mathlib.Core.List.{◌∷◌, []}
use Prim.Native.Nat.{ℕ, ◌+◌, ◌*◌, ◌-◌, ◌/◌, ◌%◌, ◌≤◌, ◌<◌}
use native.Mathlib.Nat.{add-sub_of_le, eq_of_mul-eq-mul_right}
use native.Mathlib.Omega.{arith}
use borrow.Author.Tests.{eq-eqb, ne_eqb, eqb-true, lt-ltb, le-ltb, ltb-true, ltb-false}
use lib.Dec.{ltb}
use Rattle.stripes.specs.Fold.{xsum, count}
use Rattle.stripes.specs.System.{on, other_than, sum_over, TwoStripes}
use Rattle.model.specs.Grid.{rows, columns, across, layout_of, disks, disk_at, down, grid}
use Rattle.model.specs.declared.Size.{Size}
use Rattle.stripes.proofs.Fold.{lt_or_le, xsum_ext, and_right, count_le, count_found, count-some, count_none, count-zero-none}
use Rattle.stripes.proofs.Degree.{degree, touching, other-first, other_second}
use Rattle.stripes.proofs.Counts.{count_injects}
use Rattle.model.proofs.Grid.{Fits, across_positive, on_row, on-column, row_over, column_over, column-inside, row_of, column_of_lem, disk-below, disk_is, row_within, column-within, layout-disks, size_fits_lem, layout-two}
use Rattle.layout.specs.Stripe.{has_disks, run_disk, disks_on, place_on, Numbered}
use Rattle.layout.specs.declared.stripe.Run.{Run}

-- ---- the disks of a stripe as a run

-- The disks of stripe s are those of the run, each at its place, and a sum over the stripe goes over them.
pub record RunOf (z : Size) (base s : ℕ) (run : Run) (place : ℕ → ℕ) : Type 0 where
  pub apart : 0 < run.step
  pub inside : (k : ℕ) → k < run.count → run.first + k * run.step < disks z
  pub here : (k : ℕ) → k < run.count → on (layout_of z base) (run.first + k * run.step) s ≡ true
  pub within : (d : ℕ) → d < disks z → on (layout_of z base) d s ≡ true → place d < run.count
  pub placed : (d : ℕ) → d < disks z → on (layout_of z base) d s ≡ true → d ≡ run.first + place d * run.step
  pub summed : (f : ℕ → ℕ) → sum_over (layout_of z base) f s ≡ xsum run.count (λ k. f (run.first + k * run.step))

module _ (z : Size) (base : ℕ) (above : rows z < base) where
  -- A row's disks stand one apart,
  row-run : (r : ℕ) → r ≤ rows z → RunOf z base r (record { first = r * across z; step = 1; count = across z }) (λ d. d % across z)
  unfolding across
  row-run r l =
      record {
        apart = omega arith;
        inside = λ k h. subst (λ (d : ℕ). d < disks z) (sym (at k)) (disk-below z r k l (omega arith));
        here = λ k h.
            ap (λ (d : ℕ). on (layout_of z base) d r) (at k) ∙ on_row z base (disk_at z r k) r low
            ∙ eq-eqb r (disk_at z r k / across z) (sym (row_of z r k h));
        within = λ d h o. let b = column-within z d in omega arith;
        placed = λ d h o.
            disk_is z d
            ∙ ap (λ (i : ℕ). disk_at z i (d % across z)) (sym (eqb-true r (d / across z) (sym (on_row z base d r low) ∙ o)))
            ∙ sym (at (d % across z));
        summed = λ f. row_over z base above f r l ∙ xsum_ext (across z) (λ k h. ap f (sym (at k)));
      }
    where
      low : r < base
      low = omega arith

      at : (k : ℕ) → r * across z + k * 1 ≡ disk_at z r k
      at k = unfold disk_at in omega arith

  -- a column's disks one row apart.
  column-run : (c : ℕ) → c ≤ columns z → RunOf z base (base + c) (record { first = c; step = across z; count = down z }) (λ d. d / across z)
  unfolding down
  column-run c l =
      record {
        apart = across_positive z;
        inside = λ k h. subst (λ (d : ℕ). d < disks z) (sym (at k)) (disk-below z k c (omega arith) l);
        here = λ k h.
            ap (λ (d : ℕ). on (layout_of z base) d (base + c)) (at k)
            ∙ on-column z base above (disk_at z k c) c (disk-below z k c (omega arith) l)
            ∙ eq-eqb c (disk_at z k c % across z) (sym (column_of_lem z k c (column-inside z c l)));
        within = λ d h o. let b = row_within z d h in omega arith;
        placed = λ d h o.
            disk_is z d
            ∙ ap (disk_at z (d / across z)) (sym (eqb-true c (d % across z) (sym (on-column z base above d c h) ∙ o)))
            ∙ sym (at (d / across z));
        summed = λ f. column_over z base above f c l ∙ xsum_ext (rows z + 1) (λ k h. ap f (sym (at k)));
      }
    where
      at : (k : ℕ) → c + k * across z ≡ disk_at z k c
      at k = unfold disk_at in omega arith

  -- So stands what `disks_on` says of a stripe on which some disk lies.
  pub run_of : (d s : ℕ) → d < disks z → on (layout_of z base) d s ≡ true → RunOf z base s (disks_on z base s) (λ d. place_on z base d s)
  unfolding disks_on place_on
  run_of d s l o = ⊎_elim row column (lt_or_le s base)
    where
      row : s < base → RunOf z base s (disks_on z base s) (λ d. place_on z base d s)
      row h =
          let q = eqb-true s (d / across z) (sym (on_row z base d s h) ∙ o) in
          let b = row_within z d l in
          rw (lt-ltb s base h) (row-run s (omega arith))

      column : base ≤ s → RunOf z base s (disks_on z base s) (λ d. place_on z base d s)
      column h =
          let e : base + (s - base) ≡ s = add-sub_of_le h in
          let q = eqb-true (s - base) (d % across z) (sym (on-column z base above d (s - base) l) ∙ ap (on (layout_of z base) d) e ∙ o) in
          let b = column-within z d in
          let run = column-run (s - base) (omega arith) in
          rw (le-ltb s base h)
          (subst (λ (t : ℕ). RunOf z base t (record { first = s - base; step = across z; count = down z }) (λ d. d / across z)) e run)

-- ---- numbers on which a disk lies
module _ (z : Size) (base : ℕ) where
  -- One of its disks, and that there is none.
  pub some-disk : (s : ℕ) → has_disks z base s ≡ true → (d : ℕ) × (d < disks z) × (on (layout_of z base) d s ≡ true)
  unfolding has_disks
  some-disk s e = count_found (disks z) _ (ltb-true 0 _ e)

  pub no_disk : (s : ℕ) → has_disks z base s ≡ false → (d : ℕ) → d < disks z → on (layout_of z base) d s ≡ false
  unfolding has_disks
  no_disk s e = let none = ltb-false 0 (count (disks z) (λ d. on (layout_of z base) d s)) e in count-zero-none (disks z) _ (omega arith)

  has-disk : (d s : ℕ) → d < disks z → on (layout_of z base) d s ≡ true → true ≡ has_disks z base s
  unfolding has_disks
  has-disk d s l o = sym (lt-ltb 0 _ (count-some (disks z) _ d l o))

  -- Below the base these are the rows, from there on the columns.
  pub row-held : (s : ℕ) → s < base → ltb s (down z) ≡ has_disks z base s
  unfolding has_disks down
  row-held s h =
      ⊎_elim
      (λ l.
      lt-ltb s (down z) l
      ∙ has-disk (disk_at z s 0) s (disk-below z s 0 (omega arith) (omega arith)) (on_row z base (disk_at z s 0) s h ∙ eq-eqb s _ (sym (row_of z s 0 (across_positive z)))))
      (λ l.
      le-ltb s (down z) l
      ∙ sym (ap (ltb 0) (count_none (disks z) (λ d m. on_row z base d s h ∙ ne_eqb s _ (λ e. let b = row_within z d m in omega arith)))))
      (lt_or_le s (down z))

  -- The stripes of the disk in a row and a column.
  through-at : (r c : ℕ) → c < across z → (layout_of z base).through (disk_at z r c) ≡ r ∷ (base + c) ∷ []
  unfolding layout_of grid across
  through-at r c l = ap₂ (λ (i j : ℕ). i ∷ (base + j) ∷ []) (row_of z r c l) (column_of_lem z r c l)

  module _ (above : rows z < base) where
    pub column-held : (s : ℕ) → base ≤ s → ltb (s - base) (across z) ≡ has_disks z base s
    unfolding has_disks across
    column-held s h =
        let c : ℕ = s - base in
        let e : base + c ≡ s = add-sub_of_le h in
        ⊎_elim
        (λ (l : c < across z).
        lt-ltb c (across z) l
        ∙ has-disk (disk_at z 0 c) s (disk-below z 0 c (omega arith) (omega arith))
        (ap (on (layout_of z base) (disk_at z 0 c)) (sym e) ∙ on-column z base above (disk_at z 0 c) c (disk-below z 0 c (omega arith) (omega arith))
        ∙ eq-eqb c _ (sym (column_of_lem z 0 c l))))
        (λ (l : across z ≤ c).
        le-ltb c (across z) l
        ∙ sym (ap (ltb 0) (count_none (disks z) (λ d m.
        ap (on (layout_of z base) d) (sym e) ∙ on-column z base above d c m ∙ ne_eqb c _ (λ q. let b = column-within z d in omega arith)))))
        (lt_or_le c (across z))

    -- The stripe besides a row through its disk number k, and besides a column.
    pub row_other : (s k : ℕ) → s < base → k < (disks_on z base s).count → base + k ≡ other_than s ((layout_of z base).through (run_disk (disks_on z base s) k))
    unfolding disks_on disk_at
    row_other s k h =
        let at : s * across z + k * 1 ≡ disk_at z s k = omega arith in
        rw (lt-ltb s base h)
        (λ l.
        sym
        (ap (λ (d : ℕ). other_than s ((layout_of z base).through d)) at ∙ ap (other_than s) (through-at s k l)
        ∙ other-first s (base + k) (λ e. omega arith)))

    pub column-other : (s k : ℕ) → base ≤ s → has_disks z base s ≡ true → k < (disks_on z base s).count
        → k ≡ other_than s ((layout_of z base).through (run_disk (disks_on z base s) k))
    unfolding disks_on disk_at down
    column-other s k h some =
        let c : ℕ = s - base in
        let e : base + c ≡ s = add-sub_of_le h in
        let inside : c < across z = ltb-true c (across z) (column-held s h ∙ some) in
        let at : c + k * across z ≡ disk_at z k c = omega arith in
        rw (le-ltb s base h)
        (λ l.
        sym
        (ap₂ (λ (t d : ℕ). other_than t ((layout_of z base).through d)) (sym e) at ∙ ap (other_than (base + c)) (through-at k c inside)
        ∙ other_second k (base + c) (λ q. omega arith)))

-- ---- places
module _ (z : Size) (base s : ℕ) (run : Run) (place : ℕ → ℕ) (r : RunOf z base s run place) where
  -- The disk at place k has the place k.
  pub place_at : (k : ℕ) → k < run.count → place (run.first + k * run.step) ≡ k
  place_at k h =
      let q = r.placed (run.first + k * run.step) (r.inside k h) (r.here k h) in
      eq_of_mul-eq-mul_right run.step r.apart (place (run.first + k * run.step)) k (omega arith)

-- ---- how many disks lie on a stripe: those of its run at most
run_most : (z : Size) (base s : ℕ) (run : Run) (place : ℕ → ℕ) → RunOf z base s run place → (e : ℕ → Bool)
    → degree (layout_of z base) e s ≤ run.count
unfolding degree
run_most z base s run place r e =
    let L = layout_of z base in
    let same = layout-disks z base in
    let most =
    count_injects L.disks run.count (λ d. e d && on L d s) (λ k. true) place
    (λ d l h. (r.within d (omega arith) (and_right (e d) (on L d s) h), refl))
    (λ i j l w p q k.
    r.placed i (omega arith) (and_right (e i) (on L i s) p) ∙ ap (λ (n : ℕ). run.first + n * run.step) k
    ∙ sym (r.placed j (omega arith) (and_right (e j) (on L j s) q))) in
    let all = count_le run.count (λ k. true) in
    omega arith

-- ---- what a size and a base that fit say of the layout
module _ {z : Size} {base : ℕ} (n : Numbered z base) where
  pub numbered_two : TwoStripes (layout_of z base)
  numbered_two = layout-two z base n.above

  pub stripes_few : (layout_of z base).stripe_bound ≤ 64
  unfolding layout_of grid across
  stripes_few = n.small

  -- A byte has room for the number of disks on a stripe.
  pub held-few : (e : ℕ → Bool) (s : ℕ) → degree (layout_of z base) e s < 256
  unfolding disks_on across down
  held-few e s =
      let f : Fits z = size_fits_lem z n.fits in
      ⊎_elim
      (λ some.
      let (d, l, k, o) = touching (layout_of z base) e s (lt-ltb 0 _ some) in
      let same = layout-disks z base in
      let most = run_most z base s _ _ (run_of z base n.above d s (omega arith) o) e in
      let few : (disks_on z base s).count ≤ 16 =
      ⊎_elim (λ h. rw (lt-ltb s base h) (omega arith)) (λ h. rw (le-ltb s base h) (omega arith)) (lt_or_le s base) in
      omega arith)
      (λ none. omega arith) (lt_or_le 0 (degree (layout_of z base) e s))
