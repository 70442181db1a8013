-- What the counts, the parts and the list say of a wanted disk: on a working map that has one side of it and the disk, and of both sides.
-- Assumes nothing.
use mathlib.Core.Path.{◌≡◌, refl, sym, ◌∙◌, ap, ap₂, subst, fun_ext}
use mathlib.Core.Bool.{Bool, true, false, cond, not, ◌&&◌, ◌||◌, true≢false, or-true, or-false}
use mathlib.Core.Logic.{⊎_elim}
use mathlib.Core.List.{List, [], ◌∷◌}
use Prim.Native.Nat.{ℕ, ◌+◌, ◌≤◌, ◌<◌}
use native.Mathlib.Omega.{arith}
use borrow.Author.Tests.{eq-eqb, ne_eqb, eqb-true, eqb-false, lt-leb, le-leb, not-false}
use lib.Dec.{eqb, leb}
use lib.ListN.{length, get_or, set}
use Rattle.stripes.specs.Fold.{bit, count}
use Rattle.stripes.specs.System.{Layout, TwoStripes, on, among, lower, higher, first_of, other_than}
use Rattle.stripes.specs.Erased.{erasures, without}
use Rattle.stripes.specs.Repair.{Entry, allowed, after, any_disk, residual}
use Rattle.stripes.specs.Joined.{joined, part}
use Rattle.stripes.specs.Wanted.{on_side, serves, side_repairs, takes_lower, wanted_stripe, ending_with, wanted_repairs}
use Rattle.stripes.proofs.Fold.{by_cases, fails_with, lt_or_le, count_ext}
use Rattle.stripes.proofs.Peel.{without_at, without_other, without_sub, without-apart, peel_peels, peel-others}
use Rattle.stripes.proofs.Degree.{degree, other-first}
use Rattle.stripes.proofs.Alone.{allowed-count}
use Rattle.stripes.proofs.Joined.{lower-bound}
use Rattle.stripes.proofs.Side.{side_erased, serves_peels, serves-count}
use Rattle.stripes.proofs.Wanted.{left-unreached, serves_either}
use Rattle.model.specs.Grid.{layout_of}
use Rattle.model.specs.declared.Size.{Size}
use Rattle.model.proofs.Limits.{grid-repairs-bound}
use Rattle.layout.specs.Stripe.{Numbered}
use Rattle.entries.specs.Listed.{capacity, word_of, listed}
use Rattle.entries.proofs.Words.{listed-length, listed_put}
use Rattle.tally.specs.Tally.{Tallied}
use Rattle.tally.proofs.Counted.{crossed}
use Rattle.order.specs.Pick.{held_repairs}
use Rattle.wanted.specs.Side.{in_part, other_in, side_in}
use Rattle.wanted.specs.Found.{Others, Tried, Found}
use Rattle.std.proofs.Common.{Option, Some, None}
use Rattle.wanted.proofs.Near.{sideWith, held_side, held-serves}

module _ {L : Layout} (two : TwoStripes L) {map : List ℕ} {d : ℕ} (erased : erasures map d ≡ true)
    (outside : (i : ℕ) → L.disks ≤ i → erasures map i ≡ false) {others stripes parts : List ℕ} (o : Others L map d others stripes parts)
    (s : ℕ) (bound : s < L.stripe_bound) where
  abbrev e : ℕ → Bool
  e = erasures map

  -- Another disk is in the part of the stripe exactly if it is on the side.
  other-is : (i : ℕ) → i < L.disks → other_in L others parts (get_or parts s 0) i ≡ on_side L e d s i
  unfolding on_side joined part
  other-is i l =
      ap₂ (λ (a b : Bool). a && b) (ap (λ (f : ℕ → Bool). f i) o.erased)
      (ap₂ eqb (o.parted.named (lower L i) (lower-bound L two i l)) (o.parted.named s bound))

  -- So the side has as many disks as are counted.
  pub side_number : {n : ℕ} → L.disks ≡ n → count n (other_in L others parts (get_or parts s 0)) ≡ count L.disks (on_side L e d s)
  side_number {n} all = ap (λ (k : ℕ). count k (other_in L others parts (get_or parts s 0))) (sym all) ∙ count_ext L.disks other-is

  -- What is loaded is the side with the disk.
  pub loaded_side : (work : List ℕ) → ((i : ℕ) → erasures work i ≡ side_in L map others parts (get_or parts s 0) i)
      → erasures work ≡ sideWith L two e d s erased
  loaded_side work h =
      fun_ext (λ i.
      h i ∙ ap (λ (f : ℕ → Bool). cond (f i) (in_part L parts (get_or parts s 0) i) (e i)) o.erased
      ∙ by_cases (λ (b : Bool). without e d i ≡ b → cond b (in_part L parts (get_or parts s 0) i) (e i) ≡ (on_side L e d s i || eqb i d))
      (without e d i) (λ q k. other i k) (λ q k. present i k) refl)
    where
      other : (i : ℕ) → without e d i ≡ true → in_part L parts (get_or parts s 0) i ≡ (on_side L e d s i || eqb i d)
      other i k =
          let l : i < L.disks =
          ⊎_elim (λ w. w) (λ w. absurd (true≢false (sym (without_sub e d i k) ∙ outside i w))) (lt_or_le i L.disks) in
          let there : erasures others i ≡ true = ap (λ (f : ℕ → Bool). f i) o.erased ∙ k in
          sym (ap (λ (b : Bool). b && in_part L parts (get_or parts s 0) i) there) ∙ other-is i l
          ∙ sym (or-false (on_side L e d s i)) ∙ ap (λ (b : Bool). on_side L e d s i || b) (sym (ne_eqb i d (without-apart e d i k)))

      present : (i : ℕ) → without e d i ≡ false → e i ≡ (on_side L e d s i || eqb i d)
      present i k =
          by_cases (λ (b : Bool). eqb i d ≡ b → e i ≡ (on_side L e d s i || b)) (eqb i d)
          (λ q z. ap e (eqb-true i d z) ∙ erased ∙ sym (or-true (on_side L e d s i)))
          (λ q z.
          sym (without_other e d i (eqb-false i d z)) ∙ k
          ∙ sym (ap (λ (b : Bool). b || false) (fails_with (on_side L e d s i) (without e d i) (side_erased L two e d s i) k))) refl

-- ---- one side

-- Repairs while a disk is held back are few.
pub held-few : (z : Size) (base : ℕ) → Numbered z base → (d : ℕ) (e : ℕ → Bool) {made : ℕ} → made ≡ length (held_repairs (layout_of z base) d e) → made < capacity
held-few z base n d e number =
    let L : Layout = layout_of z base in
    let few = grid-repairs-bound z base n.above n.fits e (held_repairs L d e) (peel_peels L (without any_disk d) L.disks e) in
    omega arith

module _ {L : Layout} (two : TwoStripes L) (e : ℕ → Bool) (d : ℕ) (erased : e d ≡ true) (inside : d < L.disks) (s : ℕ) (here : on L d s ≡ true)
    (work : List ℕ) (loaded : erasures work ≡ sideWith L two e d s erased)
    {made : ℕ} (work' : List ℕ) {stripes counts : List ℕ} (list : List ℕ)
    (peeled : (made ≡ length (held_repairs L d (erasures work))) × ((erasures work' ≡ after (erasures work) (held_repairs L d (erasures work)))
    × ((listed list made ≡ held_repairs L d (erasures work)) × Tallied L work' stripes counts))) where
  abbrev side : ℕ → Bool
  side = sideWith L two e d s erased

  -- The repairs are those of the side.
  side-listed : listed list made ≡ side_repairs L e d s
  side-listed = peeled.1.1.0 ∙ ap (held_repairs L d) loaded ∙ held_side L two e d s erased

  left : erasures work' ≡ after side (held_repairs L d side)
  left = peeled.1.0 ∙ ap (λ (f : ℕ → Bool). after f (held_repairs L d f)) loaded

  waits : erasures work' d ≡ true
  waits =
      ap (λ (f : ℕ → Bool). f d) left ∙ peel-others L (without any_disk d) L.disks side d (without_at any_disk d)
      ∙ ap (λ (b : Bool). on_side L e d s d || b) (eq-eqb d d refl) ∙ or-true (on_side L e d s d)

  -- The stripe serves exactly if one disk is counted on it.
  count-serves : s < length counts → eqb (get_or counts s 0) 1 ≡ serves L e d s
  unfolding degree
  count-serves l =
      ap (λ (n : ℕ). eqb n 1) (peeled.1.1.1.counted.held s l)
      ∙ sym (allowed-count L (erasures work') d inside waits s here)
      ∙ ap (λ (f : ℕ → Bool). allowed L f d s) left ∙ held-serves L two e d s erased

  pub tried_none : s < length counts → (get_or counts s 0 ≡ 1 → ⊥) → Tried L e d s None list
  tried_none l n = sym (count-serves l) ∙ ne_eqb (get_or counts s 0) 1 n

  -- Then the disk is put behind them.
  pub tried_list : s < length counts → get_or counts s 0 ≡ 1 → made < length list → d < 65536 → s < 65536
      → {list' : List ℕ} → list' ≡ set list made (word_of d s) → Tried L e d s (Some (made + 1)) list'
  tried_list l one room low high {list'} put =
      let all : listed list' (made + 1) ≡ ending_with (side_repairs L e d s) d s =
      ap (λ (m : List ℕ). listed m (made + 1)) put ∙ listed_put list made d s room low high
      ∙ ap (λ (v : List Entry). ending_with v d s) side-listed in
      record {
        fine = sym (count-serves l) ∙ eq-eqb (get_or counts s 0) 1 one;
        number = sym (listed-length list' (made + 1)) ∙ ap length all;
        entries = all;
      }

-- ---- both sides

-- A disk lies on the two stripes that are listed for it.
pub listed-on : (L : Layout) (d : ℕ) {low high : ℕ} → L.through d ≡ low ∷ high ∷ [] → (on L d low ≡ true) × (on L d high ≡ true)
unfolding on among
listed-on L d {low} {high} pair = (simp (pair, eq-eqb low low refl), simp (pair, eq-eqb high high refl, or-true))

pub listed-lower : (L : Layout) (d : ℕ) {low high : ℕ} → L.through d ≡ low ∷ high ∷ [] → lower L d ≡ low
unfolding first_of
listed-lower L d pair = ap first_of pair

pub listed-higher : (L : Layout) → TwoStripes L → (d : ℕ) {low high : ℕ} → d < L.disks → L.through d ≡ low ∷ high ∷ [] → higher L d ≡ high
unfolding bit
listed-higher L two d {low} {high} l pair =
    ap₂ other_than (listed-lower L d pair) pair
    ∙ other-first low high (λ q. let one : bit (eqb high low) ≡ 1 = ap bit (eq-eqb high low q) in omega (arith, (crossed two l pair).apart))

module _ {L : Layout} (two : TwoStripes L) (e : ℕ → Bool) (d : ℕ) (erased : e d ≡ true) where
  -- With other names for the two stripes.
  pub tried_at : {p q : ℕ × ℕ} → p ≡ q → (r : Option ℕ) (list : List ℕ)
      → Tried L e d (cond (serves L e d p.0) p.0 p.1) r list → Tried L e d (cond (serves L e d q.0) q.0 q.1) r list
  tried_at same r list u = subst (λ (x : ℕ × ℕ). Tried L e d (cond (serves L e d x.0) x.0 x.1) r list) same u

  -- The stripe that is taken.
  takes_low : serves L e d (lower L d) ≡ true
      → (serves L e d (higher L d) ≡ true → count L.disks (on_side L e d (lower L d)) ≤ count L.disks (on_side L e d (higher L d)))
      → wanted_stripe L e d ≡ lower L d
  unfolding wanted_stripe takes_lower
  takes_low h few =
      by_cases (λ (b : Bool). serves L e d (higher L d) ≡ b
      → cond (serves L e d (lower L d) && (not b || leb (length (side_repairs L e d (lower L d))) (length (side_repairs L e d (higher L d))))) (lower L d) (higher L d)
      ≡ lower L d) (serves L e d (higher L d))
      (λ q k.
      let m = serves-count L two e d (lower L d) h in
      let n = serves-count L two e d (higher L d) k in
      let f = few k in
      rw (h, le-leb (length (side_repairs L e d (lower L d))) (length (side_repairs L e d (higher L d))) (omega arith)) refl)
      (λ q k. rw h refl) refl

  takes-high : serves L e d (higher L d) ≡ true
      → (serves L e d (lower L d) ≡ true → count L.disks (on_side L e d (higher L d)) < count L.disks (on_side L e d (lower L d)))
      → wanted_stripe L e d ≡ higher L d
  unfolding wanted_stripe takes_lower
  takes-high h fewer =
      by_cases (λ (b : Bool). serves L e d (lower L d) ≡ b
      → cond (b && (not (serves L e d (higher L d)) || leb (length (side_repairs L e d (lower L d))) (length (side_repairs L e d (higher L d))))) (lower L d) (higher L d)
      ≡ higher L d) (serves L e d (lower L d))
      (λ q k.
      let m = serves-count L two e d (lower L d) k in
      let n = serves-count L two e d (higher L d) h in
      let f = fewer k in
      rw (h, lt-leb (length (side_repairs L e d (lower L d))) (length (side_repairs L e d (higher L d))) (omega arith)) refl)
      (λ q k. refl) refl

  -- What is found by the stripe that is taken, and that nothing is where neither serves.
  found-by : (s : ℕ) (r : Option ℕ) (list : List ℕ) → Tried L e d s r list → serves L e d s ≡ true → wanted_stripe L e d ≡ s → Found L e d r list
  unfolding wanted_repairs
  found-by s None list none h is = absurd (true≢false (sym h ∙ none))
  found-by s (Some n) list t h is =
      let all : listed list n ≡ wanted_repairs L e d = t.entries ∙ ap (λ (u : ℕ). ending_with (side_repairs L e d u) d u) (sym is) in
      record {
        fine =
            by_cases (λ (b : Bool). residual L e d ≡ b → b ≡ false) (residual L e d)
            (λ q k. absurd (left-unreached L d e k (side_repairs L e d s, s, serves_peels L two e d s h))) (λ q k. refl) refl;
        number = sym (listed-length list n) ∙ ap length all;
        entries = all;
      }

  found_none : (s : ℕ) (r : Option ℕ) (list : List ℕ) → Tried L e d s r list → serves L e d s ≡ false → serves L e d (lower L d) ≡ false
      → serves L e d (higher L d) ≡ false → Found L e d r list
  found_none s None list none fails low high =
      not-false (residual L e d) (sym (serves_either L two e d erased) ∙ ap₂ (λ (a b : Bool). a || b) low high)
  found_none s (Some n) list t fails low high = absurd (true≢false (sym t.fine ∙ fails))

  -- The side with fewer disks first, on a tie that at the lower stripe.
  pub found_low : count L.disks (on_side L e d (lower L d)) ≤ count L.disks (on_side L e d (higher L d)) → (r : Option ℕ) (list : List ℕ)
      → Tried L e d (cond (serves L e d (lower L d)) (lower L d) (higher L d)) r list → Found L e d r list
  found_low few r list = go (serves L e d (lower L d)) refl (serves L e d (higher L d)) refl
    where
      go : (a : Bool) → serves L e d (lower L d) ≡ a → (b : Bool) → serves L e d (higher L d) ≡ b
          → Tried L e d (cond a (lower L d) (higher L d)) r list → Found L e d r list
      go true h b k t = found-by _ r list t h (takes_low h (λ z. few))
      go false h true k t = found-by _ r list t k (takes-high k (λ z. absurd (true≢false (sym z ∙ h))))
      go false h false k t = found_none _ r list t k h k

  pub found_high : count L.disks (on_side L e d (higher L d)) < count L.disks (on_side L e d (lower L d)) → (r : Option ℕ) (list : List ℕ)
      → Tried L e d (cond (serves L e d (higher L d)) (higher L d) (lower L d)) r list → Found L e d r list
  found_high fewer r list = go (serves L e d (higher L d)) refl (serves L e d (lower L d)) refl
    where
      go : (a : Bool) → serves L e d (higher L d) ≡ a → (b : Bool) → serves L e d (lower L d) ≡ b
          → Tried L e d (cond a (higher L d) (lower L d)) r list → Found L e d r list
      go true h b k t = found-by _ r list t h (takes-high h (λ z. fewer))
      go false h true k t = found-by _ r list t k (takes_low k (λ z. absurd (true≢false (sym z ∙ h))))
      go false h false k t = found_none _ r list t k k h

  -- The same of the stripes as they were read.
  pub found_first : {low high : ℕ} → lower L d ≡ low → higher L d ≡ high
      → count L.disks (on_side L e d low) ≤ count L.disks (on_side L e d high) → (r : Option ℕ) (list : List ℕ)
      → Tried L e d (cond (serves L e d low) low high) r list → Found L e d r list
  found_first p q few r list t = found_low (rw (q, p) few) r list (rw (q, p) t)

  pub found_second : {low high : ℕ} → lower L d ≡ low → higher L d ≡ high
      → count L.disks (on_side L e d high) < count L.disks (on_side L e d low) → (r : Option ℕ) (list : List ℕ)
      → Tried L e d (cond (serves L e d high) high low) r list → Found L e d r list
  found_second p q fewer r list t = found_high (rw (q, p) fewer) r list (rw (q, p) t)
