-- The side of a wanted disk at one of its stripes: a list of allowed repairs that ends with the disk by that stripe repairs all of it,
-- whatever else it contains, and where there is such a list, the side can be repaired alone.
-- Assumes nothing.
use mathlib.Core.Path.{◌≡◌, refl, sym, ◌∙◌, ap}
use mathlib.Core.Bool.{Bool, true, false, cond, ◌&&◌, true≢false}
use mathlib.Core.Logic.{⊎_elim}
use mathlib.Core.List.{List, ◌∷◌, []}
use Prim.Native.Nat.{ℕ, ◌+◌, ◌≤◌, ◌<◌}
use native.Mathlib.Nat.{zero-add}
use native.Mathlib.Omega.{arith}
use borrow.Author.Tests.{eq-eqb, ne_eqb, eqb-true, eqb-false}
use lib.Dec.{eqb}
use lib.ListN.{length}
use Rattle.stripes.specs.Fold.{count, bit}
use Rattle.stripes.specs.System.{Layout, TwoStripes, lower, higher, on}
use Rattle.stripes.specs.Erased.{without}
use Rattle.stripes.specs.Repair.{Entry, allowed, Peels, after}
use Rattle.stripes.specs.Joined.{joined}
use Rattle.stripes.specs.Wanted.{on_side, side_repairs, serves, ending_with}
use Rattle.stripes.proofs.Fold.{and_left, and_right, and_both, by_cases, fails_with, count_le, count_mono, count-without, count_split}
use Rattle.stripes.proofs.Peel.{Within, Ended, Allowed, allowed_is, allowed_of, without_at, without_other, without_sub, without-apart, after_sub, peel_peels, peel-others, peel-ends, peel-count}
use Rattle.stripes.proofs.Degree.{on-low, on-high, on_which}
use Rattle.stripes.proofs.Joined.{lower_is, higher_is, joined_self, joined_back, joined_chain, joined-disk, joined-least}
use Rattle.stripes.proofs.Split.{peels_append, peels_first, peels_second}

-- ---- the two stripes of a disk
module _ (L : Layout) (two : TwoStripes L) (i : ℕ) (inside : i < L.disks) where
  on-lower : on L i (lower L i) ≡ true
  on-lower = ap (on L i) (lower_is L two i inside) ∙ on-low L two i inside

  on-higher : on L i (higher L i) ≡ true
  on-higher = ap (on L i) (higher_is L two i inside) ∙ on-high L two i inside

  -- A disk of c joins its lower stripe with each stripe that it lies on.
  pub on-joined : (c : ℕ → Bool) → c i ≡ true → (t : ℕ) → on L i t ≡ true → joined L c (lower L i) t ≡ true
  on-joined c h t k =
      ⊎_elim
      (λ q. ap (joined L c (lower L i)) (q ∙ sym (lower_is L two i inside)) ∙ joined_self L c (lower L i))
      (λ q. ap (joined L c (lower L i)) (q ∙ sym (higher_is L two i inside)) ∙ joined-disk L c i inside h)
      (on_which L two i inside t k)

-- ---- the side

-- A list of allowed repairs that ends with disk d.
module _ (L : Layout) (d s : ℕ) (e : ℕ → Bool) (v : List Entry) (peels : Peels L e (ending_with v d s)) where
  pub last-allowed : Allowed L (after e v) d s
  last-allowed = allowed_is L (after e v) d s (peels_second L e v _ peels).0

  pub last-erased : e d ≡ true
  last-erased = after_sub e v d last-allowed.erased

module _ (L : Layout) (two : TwoStripes L) (d s : ℕ) where
  -- Some stripes, s among them. Each other erased disk has both its stripes there or none, and if it has, a list of repairs reaches it.
  record Drawn (e : ℕ → Bool) (v : List Entry) : Type 0 where
    some : ℕ → Bool
    start : some s ≡ true
    closed : (i : ℕ) → i < L.disks → without e d i ≡ true → some (lower L i) ≡ some (higher L i)
    reached : (i : ℕ) → i < L.disks → without e d i ≡ true → some (lower L i) ≡ true → after e v i ≡ false

  -- Before the last repair that is the stripe s alone.
  drawn-last : (e : ℕ → Bool) → Allowed L e d s → Drawn e []
  drawn-last e a =
      let off : (i : ℕ) → i < L.disks → without e d i ≡ true → on L i s ≡ false =
      λ i l h. a.only i l (without-apart e d i h) (without_sub e d i h) in
      let apart : (i t : ℕ) → i < L.disks → without e d i ≡ true → on L i t ≡ true → eqb t s ≡ false =
      λ i t l h k. ne_eqb t s (λ q. true≢false (sym k ∙ ap (on L i) q ∙ off i l h)) in
      record {
        some = λ t. eqb t s;
        start = eq-eqb s s refl;
        closed = λ i l h. apart i _ l h (on-lower L two i l) ∙ sym (apart i _ l h (on-higher L two i l));
        reached = λ i l h k. absurd (true≢false (sym k ∙ apart i _ l h (on-lower L two i l)));
      }

  -- Before a repair by stripe u of a disk whose other stripe is o, u is there if o is.
  module _ (e : ℕ → Bool) (r : Entry) (v : List Entry) (a : Allowed L e r.disk r.stripe) (rest : Drawn (without e r.disk) v)
      (waits : without e r.disk d ≡ true) (here : on L d s ≡ true) (known : d < L.disks) where
    drawn-first : (o : ℕ) → (o ≡ r.stripe → ⊥)
        → ((some : ℕ → Bool) → some r.stripe ≡ some o → some (lower L r.disk) ≡ some (higher L r.disk))
        → Drawn e (r ∷ v)
    unfolding after
    drawn-first o differ both =
        let u : ℕ = r.stripe in
        let j : ℕ = r.disk in
        let some : ℕ → Bool = λ t. cond (eqb t u) (rest.some o) (rest.some t) in
        let same : (t : ℕ) → (t ≡ u → ⊥) → some t ≡ rest.some t =
        λ t n. ap (λ (b : Bool). cond b (rest.some o) (rest.some t)) (ne_eqb t u n) in
        let at : some u ≡ rest.some o = ap (λ (b : Bool). cond b (rest.some o) (rest.some u)) (eq-eqb u u refl) in
        let other : (i : ℕ) → (i ≡ j → ⊥) → without e d i ≡ true → without (without e j) d i ≡ true =
        λ i n h. without_other (without e j) d i (without-apart e d i h) ∙ without_other e j i n ∙ without_sub e d i h in
        let off : (i t : ℕ) → i < L.disks → (i ≡ j → ⊥) → e i ≡ true → on L i t ≡ true → t ≡ u → ⊥ =
        λ i t l n h k q. true≢false (sym k ∙ ap (on L i) q ∙ a.only i l n h) in
        record {
          some = some;
          start =
              same s (off d s known (without-apart e j d waits) (without_sub e j d waits) here) ∙ rest.start;
          closed = λ i l h.
              by_cases (λ (b : Bool). some (lower L i) ≡ some (higher L i)) (eqb i j)
              (λ q. rw (eqb-true i j q) (both some (at ∙ sym (same o differ))))
              (λ q.
              let n = eqb-false i j q in
              same (lower L i) (off i _ l n (without_sub e d i h) (on-lower L two i l))
              ∙ rest.closed i l (other i n h)
              ∙ sym (same (higher L i) (off i _ l n (without_sub e d i h) (on-higher L two i l))));
          reached = λ i l h k.
              by_cases (λ (b : Bool). after (without e j) v i ≡ false) (eqb i j)
              (λ q.
              fails_with (after (without e j) v i) (without e j i) (after_sub (without e j) v i)
              (ap (without e j) (eqb-true i j q) ∙ without_at e j))
              (λ q.
              let n = eqb-false i j q in
              rest.reached i l (other i n h) (sym (same (lower L i) (off i _ l n (without_sub e d i h) (on-lower L two i l))) ∙ k));
        }

  drawn : (v : List Entry) (e : ℕ → Bool) → Peels L e (ending_with v d s) → Drawn e v
  drawn [] e p = drawn-last e (allowed_is L e d s p.0)
  drawn (r ∷ v) e p =
      let a : Allowed L e r.disk r.stripe = allowed_is L e r.disk r.stripe p.0 in
      let j : ℕ = r.disk in
      let last : Allowed L (after (without e j) v) d s = last-allowed L d s (without e j) v p.1 in
      let order = two.order j a.disk in
      let low = lower_is L two j a.disk in
      let high = higher_is L two j a.disk in
      let first = drawn-first e r v a (drawn v (without e j) p.1) (last-erased L d s (without e j) v p.1) last.here last.disk in
      ⊎_elim
      (λ q. first (higher L j) (λ n. omega arith) (λ some k. ap some (low ∙ sym q) ∙ k))
      (λ q. first (lower L j) (λ n. omega arith) (λ some k. sym k ∙ ap some (q ∙ sym high)))
      (on_which L two j a.disk r.stripe a.here)

-- ---- what the list repairs
module _ (L : Layout) (two : TwoStripes L) (e : ℕ → Bool) (d s : ℕ) where
  pub side_erased : (i : ℕ) → on_side L e d s i ≡ true → without e d i ≡ true
  unfolding on_side
  side_erased i h = and_left (without e d i) _ h

  pub side_joined : (i : ℕ) → on_side L e d s i ≡ true → joined L (without e d) (lower L i) s ≡ true
  unfolding on_side
  side_joined i h = and_right (without e d i) _ h

  -- The wanted disk itself is not on its side.
  pub side_waits : on_side L e d s d ≡ false
  side_waits = fails_with (on_side L e d s d) (without e d d) (side_erased d) (without_at e d)

  -- Another erased disk is, if it lies on the stripe, or on a stripe of a disk that is.
  pub on_side_lem : (i t : ℕ) → i < L.disks → without e d i ≡ true → on L i t ≡ true → joined L (without e d) t s ≡ true → on_side L e d s i ≡ true
  unfolding on_side
  on_side_lem i t l h k w = and_both h (joined_chain L (without e d) (lower L i) t s (on-joined L two i l (without e d) h t k) w)

  pub side_beside : (i j t : ℕ) → i < L.disks → j < L.disks → on_side L e d s i ≡ true → on L i t ≡ true
      → without e d j ≡ true → on L j t ≡ true → on_side L e d s j ≡ true
  side_beside i j t l m h k q w =
      on_side_lem j t m q w
      (joined_chain L (without e d) t (lower L i) s
      (joined_back L (without e d) (lower L i) t (on-joined L two i l (without e d) (side_erased i h) t k)) (side_joined i h))

  module _ (v : List Entry) (peels : Peels L e (ending_with v d s)) where
    -- Every list that ends with the disk by stripe s repairs the whole side.
    pub side_reached : (i : ℕ) → i < L.disks → on_side L e d s i ≡ true → after e v i ≡ false
    side_reached i l h =
        let x : Drawn L two d s e v = drawn L two d s v e peels in
        x.reached i l (side_erased i h)
        (joined-least L (without e d) (λ a b. x.some a ≡ x.some b)
        (record { self = λ t. refl; back = λ a b q. sym q; chain = λ a b c p q. p ∙ q; disk = x.closed }) (lower L i) s (side_joined i h)
        ∙ x.start)

    -- So it leaves no disk that the repairs of the side would not leave,
    side-leaves : (i : ℕ) → i < L.disks → after e v i ≡ true → after e (side_repairs L e d s) i ≡ true
    unfolding side_repairs
    side-leaves i l h =
        let c : ℕ → Bool = on_side L e d s in
        peel-others L c L.disks e i
        (by_cases (λ (b : Bool). b ≡ false) (c i) (λ k. absurd (true≢false (sym h ∙ side_reached i l k))) (λ k. refl))
        ∙ after_sub e v i h

    -- and is no shorter than these.
    pub side_shortest : length (side_repairs L e d s) ≤ length v
    unfolding side_repairs
    side_shortest =
        let first = peel-count L e (side_repairs L e d s) (peel_peels L (on_side L e d s) L.disks e) in
        let second = peel-count L e v (peels_first L e v _ peels) in
        let more : count L.disks (after e v) ≤ count L.disks (after e (side_repairs L e d s)) = count_mono L.disks side-leaves in
        omega arith

    -- A list of the same length repairs nothing but the side before the disk.
    pub side_only : length v ≡ length (side_repairs L e d s) → (i : ℕ) → i < L.disks → e i ≡ true → after e v i ≡ false
        → on_side L e d s i ≡ true
    unfolding side_repairs without
    side_only same i l h k =
        let c : ℕ → Bool = on_side L e d s in
        let g : ℕ → Bool = after e (side_repairs L e d s) in
        by_cases (λ (b : Bool). b ≡ true) (c i) (λ w. refl)
        (λ w.
        let first = peel-count L e (side_repairs L e d s) (peel_peels L c L.disks e) in
        let second = peel-count L e v (peels_first L e v _ peels) in
        let more = count-without L.disks g i l (peel-others L c L.disks e i w ∙ h) in
        let most : count L.disks (after e v) ≤ count L.disks (without g i) =
        count_mono L.disks (λ j m q.
        without_other g i j (λ n. true≢false (sym q ∙ ap (after e v) n ∙ k)) ∙ side-leaves j m q) in
        absurd (omega arith))

-- ---- repairs that end where no disk of the side can be repaired, and leave the wanted disk
module _ (L : Layout) (two : TwoStripes L) (e : ℕ → Bool) (d s : ℕ) (w : List Entry)
    (ended : Ended L (on_side L e d s) (after e w)) (waiting : after e w d ≡ e d) where
  -- What they leave of the side.
  abbrev left : ℕ → Bool
  left i = on_side L e d s i && after e w i

  -- A disk of it shares each of its stripes with another of it, or with the wanted disk.
  left-held : (f : ℕ → Bool) → Within L left f → f d ≡ true → (j u : ℕ) → Allowed L f j u → left j ≡ true → ⊥
  left-held f sub waits j u a h =
      let c : ℕ → Bool = on_side L e d s in
      true≢false
      (sym (allowed_of
      (record {
        disk = a.disk;
        erased = and_right (c j) (after e w j) h;
        here = a.here;
        only = λ i l n k.
            by_cases (λ (b : Bool). b ≡ false) (on L i u)
            (λ q.
            by_cases (λ (b : Bool). true ≡ false) (eqb i d)
            (λ z. sym q ∙ a.only i l n (ap f (eqb-true i d z) ∙ waits))
            (λ z.
            let own : without e d i ≡ true = without_other e d i (eqb-false i d z) ∙ after_sub e w i k in
            let side : c i ≡ true = side_beside L two e d s j i u a.disk l (and_left (c j) (after e w j) h) a.here own q in
            sym q ∙ a.only i l n (sub i l (and_both side k))))
            (λ q. refl);
      }))
      ∙ ended j u (and_left (c j) (after e w j) h))

  -- So no list that ends with the wanted disk repairs any of it.
  left-stays : (v : List Entry) (f : ℕ → Bool) → Within L left f → Peels L f (ending_with v d s) → Within L left (after f v)
  unfolding after
  left-stays [] f sub p = sub
  left-stays (r ∷ v) f sub p =
      let waits : without f r.disk d ≡ true = last-erased L d s (without f r.disk) v p.1 in
      let a : Allowed L f r.disk r.stripe = allowed_is L f r.disk r.stripe p.0 in
      left-stays v (without f r.disk)
      (λ i l h.
      without_other f r.disk i
      (λ q. left-held f sub (without_sub f r.disk d waits) r.disk r.stripe a (ap left (sym q) ∙ h))
      ∙ sub i l h) p.1

  module _ (v : List Entry) (peels : Peels L e (ending_with v d s)) where
    -- Where there is such a list, nothing of the side is left,
    side-repaired : (i : ℕ) → i < L.disks → on_side L e d s i ≡ true → after e w i ≡ false
    side-repaired i l h =
        by_cases (λ (b : Bool). b ≡ false) (after e w i)
        (λ k.
        absurd (true≢false
        (sym (left-stays v e (λ i l q. after_sub e w i (and_right (on_side L e d s i) _ q)) peels i l (and_both h k))
        ∙ side_reached L two e d s v peels i l h)))
        (λ k. refl)

    -- and the wanted disk can be repaired.
    side-opens : allowed L (after e w) d s ≡ true
    side-opens =
        let last : Allowed L (after e v) d s = last-allowed L d s e v peels in
        allowed_of
        (record {
          disk = last.disk;
          erased = waiting ∙ last-erased L d s e v peels;
          here = last.here;
          only = λ i l n k.
              by_cases (λ (b : Bool). b ≡ false) (on L i s)
              (λ q.
              let own : without e d i ≡ true = without_other e d i n ∙ after_sub e w i k in
              absurd (true≢false (sym k ∙ side-repaired i l (on_side_lem L two e d s i s l own q (joined_self L (without e d) s)))))
              (λ q. refl);
        })

module _ (L : Layout) (two : TwoStripes L) (e : ℕ → Bool) (d s : ℕ) where
  -- Where a list ends with the wanted disk by stripe s, the stripe serves: its side can be repaired alone.
  pub side_serves : (v : List Entry) → Peels L e (ending_with v d s) → serves L e d s ≡ true
  unfolding serves side_repairs
  side_serves =
      let c : ℕ → Bool = on_side L e d s in
      side-opens L two e d s (side_repairs L e d s) (peel-ends L c L.disks e (count_le L.disks e))
      (peel-others L c L.disks e d (side_waits L two e d s))

  -- And where it serves, the repairs of the side and then the disk are such a list.
  pub serves_peels : serves L e d s ≡ true → Peels L e (ending_with (side_repairs L e d s) d s)
  unfolding serves side_repairs
  serves_peels h =
      peels_append L e (side_repairs L e d s) (record { disk = d; stripe = s } ∷ []) (peel_peels L (on_side L e d s) L.disks e) (h, tt)

  -- Then they are as many as the side has disks.
  pub serves-count : serves L e d s ≡ true → length (side_repairs L e d s) ≡ count L.disks (on_side L e d s)
  unfolding side_repairs bit
  serves-count h =
      let c : ℕ → Bool = on_side L e d s in
      let w : List Entry = side_repairs L e d s in
      let all = peel-count L e w (peel_peels L c L.disks e) in
      let repaired : (i : ℕ) → i < L.disks → c i ≡ true → after e w i ≡ false =
      side-repaired L two e d s w (peel-ends L c L.disks e (count_le L.disks e)) (peel-others L c L.disks e d (side_waits L two e d s))
      w (serves_peels h) in
      let split = count_split L.disks e c (after e w) (λ i l.
      by_cases (λ (b : Bool). c i ≡ b → bit b + bit (after e w i) ≡ bit (e i)) (c i)
      (λ q k. rw (repaired i l k, without_sub e d i (side_erased L two e d s i k)) refl)
      (λ q k. rw (peel-others L c L.disks e i k) (zero-add (bit (e i)))) refl) in
      omega arith
