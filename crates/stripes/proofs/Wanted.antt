-- The list for one wanted disk: what it is in paper 02's words, that these fix it, and where there is none.
-- Assumes nothing.
use mathlib.Core.Path.{◌≡◌, refl, sym, ◌∙◌, ap, ap₂, subst, fun_ext}
use mathlib.Core.Bool.{Bool, true, false, cond, not, ◌&&◌, ◌||◌, true≢false, or-true, and_comm, and_assoc}
use mathlib.Core.Logic.{◌↔◌, ◌⊎◌, ⊎_elim, inl, inr}
use mathlib.Core.List.{List, ◌∷◌, ◌++◌, []}
use Prim.Native.Nat.{ℕ, zero, suc, ◌≤◌, ◌<◌}
use native.Mathlib.Nat.{le_of_suc-le-suc, not-suc-le-zero}
use native.Mathlib.Omega.{arith}
use borrow.Author.Tests.{eqb-true, eqb-false, leb-true, leb-false}
use lib.Dec.{eqb, leb}
use lib.ListN.{length, take}
use Rattle.stripes.specs.System.{Layout, TwoStripes, lower, higher, on}
use Rattle.stripes.specs.Erased.{without}
use Rattle.stripes.specs.Repair.{Entry, disk_of, stripe_of, allowed, first_allowed, Peels, next_disk, repair_of, peel, repairs, after, residual}
use Rattle.stripes.specs.Wanted.{on_side, side_repairs, serves, takes_lower, wanted_stripe, ending_with, wanted_repairs, Reached, Wanted}
use Rattle.stripes.proofs.Fold.{by_cases, count_le}
use Rattle.stripes.proofs.Peel.{Allowed, allowed_is, allowed_of, without_at, without_other, without_sub, without-apart, after_snoc, stuck_stays, repairs_peels, residual_stuck, residual_sub, next-allowed, next-chosen, next-lowest, peel-next, peel-none, peel-disk, named_where, named-repaired, peel-count}
use Rattle.stripes.proofs.Degree.{on_which}
use Rattle.stripes.proofs.Joined.{lower_is, higher_is}
use Rattle.stripes.proofs.Split.{peels_first}
use Rattle.stripes.proofs.Side.{last-allowed, side_reached, side_shortest, side_only, side_serves, serves_peels}

-- ---- where there is a list
module _ (L : Layout) (d : ℕ) where
  -- A list of repairs that takes an erased disk away reaches it.
  pub reached_of : (w : List Entry) (e : ℕ → Bool) → Peels L e w → e d ≡ true → after e w d ≡ false → Reached L e d
  unfolding after
  reached_of [] e p h k = absurd (true≢false (sym h ∙ k))
  reached_of (r ∷ rs) e p h k =
      by_cases (λ (b : Bool). Reached L e d) (eqb d r.disk)
      (λ q. ([], r.stripe, (ap (λ (i : ℕ). allowed L e i r.stripe) (eqb-true d r.disk q) ∙ p.0, tt)))
      (λ q.
      let (v, s, up) = reached_of rs (without e r.disk) p.1 (without_other e r.disk d (eqb-false d r.disk q) ∙ h) k in
      (r ∷ v, s, (p.0, up)))

  -- There is a list exactly if plan's order does not leave the disk.
  pub left-unreached : (e : ℕ → Bool) → residual L e d ≡ true → Reached L e d → ⊥
  left-unreached e h (v, s, p) =
      let l : d < L.disks = (last-allowed L d s e v p).disk in
      true≢false
      (sym (stuck_stays L (residual L e) e (λ i l. residual_sub L e i) (residual_stuck L e) (ending_with v d s) p d l h)
      ∙ ap (λ (f : ℕ → Bool). f d) (after_snoc e v (record { disk = d; stripe = s })) ∙ without_at (after e v) d)

  pub unreached_iff : (e : ℕ → Bool) → e d ≡ true → (residual L e d ≡ true) ↔ (Reached L e d → ⊥)
  unfolding residual
  unreached_iff e h = (
    left-unreached e,
    λ none.
        by_cases (λ (b : Bool). b ≡ true) (residual L e d) (λ k. refl)
        (λ k. absurd (none (reached_of (repairs L e) e (repairs_peels L e) h k))),
  )

-- ---- the stripe
module _ (L : Layout) (two : TwoStripes L) (e : ℕ → Bool) (d : ℕ) where
  -- A stripe that serves, with no more repairs than any list of allowed repairs that ends with the disk; of equal ones the lower.
  record Best (t : ℕ) : Type 0 where
    serving : serves L e d t ≡ true
    least : (v : List Entry) (s : ℕ) → Peels L e (ending_with v d s) → length (side_repairs L e d t) ≤ length v
    lowest : (v : List Entry) (s : ℕ) → Peels L e (ending_with v d s) → length v ≡ length (side_repairs L e d t) → t ≤ s

  -- Every list ends by one of the two stripes. That one serves, with no more repairs.
  By : List Entry → ℕ → Type 0
  By v t = (serves L e d t ≡ true) × (length (side_repairs L e d t) ≤ length v)

  list-by : (v : List Entry) (s : ℕ) → Peels L e (ending_with v d s)
      → ((s ≡ lower L d) × By v (lower L d)) ⊎ ((s ≡ higher L d) × By v (higher L d))
  unfolding By
  list-by v s p =
      let last : Allowed L (after e v) d s = last-allowed L d s e v p in
      let own : By v s = (side_serves L two e d s v p, side_shortest L two e d s v p) in
      ⊎_elim
      (λ q. let is : s ≡ lower L d = q ∙ sym (lower_is L two d last.disk) in inl (is, subst (By v) is own))
      (λ q. let is : s ≡ higher L d = q ∙ sym (higher_is L two d last.disk) in inr (is, subst (By v) is own))
      (on_which L two d last.disk s last.here)

  module _ (d< : d < L.disks) where
    in_order_lem : lower L d < higher L d
    in_order_lem = let low = lower_is L two d d< in let high = higher_is L two d d< in let order = two.order d d< in omega arith

    best-lower : serves L e d (lower L d) ≡ true
        → (serves L e d (higher L d) ≡ true → length (side_repairs L e d (lower L d)) ≤ length (side_repairs L e d (higher L d)))
        → Best (lower L d)
    unfolding By
    best-lower h fewer =
        record {
          serving = h;
          least = λ v s p. ⊎_elim (λ (q, by). by.1) (λ (q, by). let f = fewer by.0 in let b = by.1 in omega arith) (list-by v s p);
          lowest = λ v s p same. let o = in_order_lem in ⊎_elim (λ (q, by). omega arith) (λ (q, by). omega arith) (list-by v s p);
        }

    best-higher : serves L e d (higher L d) ≡ true
        → (serves L e d (lower L d) ≡ true → length (side_repairs L e d (higher L d)) < length (side_repairs L e d (lower L d)))
        → Best (higher L d)
    unfolding By
    best-higher h fewer =
        record {
          serving = h;
          least = λ v s p. ⊎_elim (λ (q, by). let f = fewer by.0 in let b = by.1 in omega arith) (λ (q, by). by.1) (list-by v s p);
          lowest = λ v s p same.
              ⊎_elim (λ (q, by). let f = fewer by.0 in let b = by.1 in absurd (omega arith)) (λ (q, by). omega arith) (list-by v s p);
        }

  best : Reached L e d → Best (wanted_stripe L e d)
  unfolding wanted_stripe takes_lower By
  best (w, u, q) =
      go (serves L e d low) refl (serves L e d high) refl (leb (cost low) (cost high)) refl
    where
      low : ℕ
      low = lower L d

      high : ℕ
      high = higher L d

      cost : ℕ → ℕ
      cost t = length (side_repairs L e d t)

      l : d < L.disks
      l = (last-allowed L d u e w q).disk

      go : (a : Bool) → serves L e d low ≡ a → (b : Bool) → serves L e d high ≡ b → (c : Bool) → leb (cost low) (cost high) ≡ c
          → Best (cond (a && (not b || c)) low high)
      go true p false r c z = best-lower l p (λ h. absurd (true≢false (sym h ∙ r)))
      go true p true r true z = best-lower l p (λ h. leb-true (cost low) (cost high) z)
      go true p true r false z = best-higher l r (λ h. leb-false (cost low) (cost high) z)
      go false p true r c z = best-higher l r (λ h. absurd (true≢false (sym h ∙ p)))
      go false p false r c z =
          absurd (⊎_elim (λ (is, by). true≢false (sym by.0 ∙ p)) (λ (is, by). true≢false (sym by.0 ∙ r)) (list-by w u q))

  -- One of the two stripes serves exactly if plan's order does not leave the disk.
  pub serves_either : e d ≡ true → (serves L e d (lower L d) || serves L e d (higher L d)) ≡ not (residual L e d)
  unfolding residual By
  serves_either h =
      by_cases (λ (b : Bool). residual L e d ≡ b → (serves L e d (lower L d) || serves L e d (higher L d)) ≡ not b) (residual L e d)
      (λ z k. ap₂ (λ (a b : Bool). a || b) (never k (lower L d)) (never k (higher L d)))
      (λ z k.
      let (v, s, p) = reached_of L d (repairs L e) e (repairs_peels L e) h k in
      ⊎_elim
      (λ (q, by). ap (λ (a : Bool). a || serves L e d (higher L d)) by.0)
      (λ (q, by). ap (λ (b : Bool). serves L e d (lower L d) || b) by.0 ∙ or-true (serves L e d (lower L d)))
      (list-by v s p))
      refl
    where
      never : residual L e d ≡ true → (s : ℕ) → serves L e d s ≡ false
      never k s =
          by_cases (λ (b : Bool). b ≡ false) (serves L e d s)
          (λ q. absurd (left-unreached L d e k (side_repairs L e d s, s, serves_peels L two e d s q))) (λ q. refl)

  -- ---- the list

  -- It is the one of paper 02.
  pub wanted_is : Reached L e d → Wanted L e d (wanted_repairs L e d)
  unfolding wanted_repairs side_repairs
  wanted_is reached =
      let t : ℕ = wanted_stripe L e d in
      let c : ℕ → Bool = on_side L e d t in
      let b : Best t = best reached in
      record {
        before = side_repairs L e d t;
        stripe = t;
        ends = refl;
        allowed_all = serves_peels L two e d t b.serving;
        shortest = b.least;
        lower_wins = b.lowest;
        lowest_first = λ i k l m s a.
            let first = peel-disk L c L.disks e i (omega arith) in
            let later = peel-disk L c L.disks e k m in
            let low = next-lowest L c (after e (take i (side_repairs L e d t))) _ s later.1 a in
            omega (arith, first.0, low);
      }

-- ---- a repair that others do not need

-- No other disk of e lies on a stripe of disk x.
abbrev Apart : Layout → (e : ℕ → Bool) → (x : ℕ) → Type 0
Apart L e x = (i : ℕ) → i < L.disks → (i ≡ x → ⊥) → e i ≡ true → (s : ℕ) → on L x s ≡ true → on L i s ≡ false

pub without_swap : (e : ℕ → Bool) (x y : ℕ) → without (without e x) y ≡ without (without e y) x
unfolding without
without_swap e x y =
    fun_ext (λ i. and_assoc (e i) _ _ ∙ ap (λ (b : Bool). e i && b) (and_comm (not (eqb i x)) (not (eqb i y))) ∙ sym (and_assoc (e i) _ _))

module _ (L : Layout) (two : TwoStripes L) where
  -- Repairs that are allowed after x are allowed without it.
  apart-peels : (x : ℕ) (w : List Entry) (e : ℕ → Bool) → Apart L e x → Peels L (without e x) w → Peels L e w
  apart-peels x [] e apart p = tt
  apart-peels x (r ∷ rs) e apart p =
      let y : ℕ = r.disk in
      let a : Allowed L (without e x) y r.stripe = allowed_is L (without e x) y r.stripe p.0 in
      let own : e y ≡ true = without_sub e x y a.erased in
      let differ : y ≡ x → ⊥ = without-apart e x y a.erased in (
        allowed_of
            (record {
              disk = a.disk;
              erased = own;
              here = a.here;
              only = λ i l n h.
                  by_cases (λ (b : Bool). on L i r.stripe ≡ false) (eqb i x)
                  (λ q.
                  by_cases (λ (b : Bool). b ≡ false) (on L i r.stripe)
                  (λ k. sym a.here ∙ apart y a.disk differ own r.stripe (ap (λ (j : ℕ). on L j r.stripe) (sym (eqb-true i x q)) ∙ k))
                  (λ k. refl))
                  (λ q. a.only i l n (without_other e x i (eqb-false i x q) ∙ h));
            }),
        apart-peels x rs (without e y) (λ i l n h. apart i l n (without_sub e y i h))
            (subst (λ (f : ℕ → Bool). Peels L f rs) (without_swap e x y) p.1),
      )

  -- So a repair for which a second stripe is allowed can be left out.
  left_out : (v q : List Entry) (e : ℕ → Bool) → Peels L e (v ++ q) → (i : ℕ) → i < length v → (s : ℕ)
      → allowed L (after e (take i v)) (disk_of v i) s ≡ true → (s ≡ stripe_of v i → ⊥)
      → (w : List Entry) × (suc (length w) ≡ length v) × Peels L e (w ++ q)
  unfolding after disk_of stripe_of
  left_out [] q e p i l s h n = absurd (not-suc-le-zero l)
  left_out (r ∷ rs) q e p zero l s h n =
      let a : Allowed L e r.disk r.stripe = allowed_is L e r.disk r.stripe p.0 in
      let b : Allowed L e r.disk s = allowed_is L e r.disk s h in
      let which = on_which L two r.disk a.disk in (
        rs,
        refl,
        apart-peels r.disk (rs ++ q) e
            (λ i l m k t w.
            by_cases (λ (c : Bool). on L i t ≡ false) (eqb t r.stripe)
            (λ z. ap (on L i) (eqb-true t r.stripe z) ∙ a.only i l m k)
            (λ z. ap (on L i) (third t w (eqb-false t r.stripe z) which a.here b.here) ∙ b.only i l m k))
            p.1,
      )
    where
      third : (t : ℕ) → on L r.disk t ≡ true → (t ≡ r.stripe → ⊥)
          → ((u : ℕ) → on L r.disk u ≡ true → (u ≡ two.low r.disk) ⊎ (u ≡ two.high r.disk))
          → on L r.disk r.stripe ≡ true → on L r.disk s ≡ true → t ≡ s
      third t w z which x y =
          ⊎_elim
          (λ j. ⊎_elim (λ k. ⊎_elim (λ m. absurd (n (m ∙ sym j))) (λ m. absurd (z (k ∙ sym j))) (which s y))
          (λ k. ⊎_elim (λ m. absurd (n (m ∙ sym j))) (λ m. k ∙ sym m) (which s y)) (which t w))
          (λ j. ⊎_elim (λ k. ⊎_elim (λ m. k ∙ sym m) (λ m. absurd (n (m ∙ sym j))) (which s y))
          (λ k. absurd (z (k ∙ sym j))) (which t w))
          (which r.stripe x)
  left_out (r ∷ rs) q e p (suc i) l s h n =
      let (w, long, up) = left_out rs q (without e r.disk) p.1 i (le_of_suc-le-suc l) s h n in
      (r ∷ w, ap suc long, (p.0, up))

-- ---- these words fix the list

-- Repairs of all disks of c, each by the only stripe that is allowed, and by lowest number.
record Ordered (L : Layout) (c e : ℕ → Bool) (v : List Entry) : Type 0 where
  peels : Peels L e v
  chosen : (i : ℕ) → i < length v → c (disk_of v i) ≡ true
  whole : (d : ℕ) → d < L.disks → c d ≡ true → after e v d ≡ false
  sole : (i : ℕ) → i < length v → (s : ℕ) → allowed L (after e (take i v)) (disk_of v i) s ≡ true → s ≡ stripe_of v i
  lowest : (i k : ℕ) → i < k → k < length v → (s : ℕ) → allowed L (after e (take i v)) (disk_of v k) s ≡ true → disk_of v i ≤ disk_of v k

module _ (L : Layout) (c : ℕ → Bool) where
  -- No disk of the list that can be repaired has a lower number than the first,
  first-lowest : (e : ℕ → Bool) (r : Entry) (v : List Entry) → Ordered L c e (r ∷ v)
      → (x s : ℕ) → allowed L e x s ≡ true → (k : ℕ) → k < length (r ∷ v) → disk_of (r ∷ v) k ≡ x → r.disk ≤ x
  unfolding after disk_of
  first-lowest e r v o x s ok zero l is = omega arith
  first-lowest e r v o x s ok (suc k) l is =
      let low = o.lowest 0 (suc k) (omega arith) l s (ap (λ (i : ℕ). allowed L e i s) is ∙ ok) in
      omega arith

  -- so that the first is the next repair.
  ordered-first : (e : ℕ → Bool) (r : Entry) (v : List Entry) → Ordered L c e (r ∷ v)
      → (next_disk L c e < L.disks) × (repair_of L e (next_disk L c e) ≡ r)
  unfolding repair_of after disk_of stripe_of
  ordered-first e r v o =
      let a : Allowed L e r.disk r.stripe = allowed_is L e r.disk r.stripe o.peels.0 in
      let x : ℕ = next_disk L c e in
      let s : ℕ = first_allowed L e x (L.through x) in
      let most : x ≤ r.disk = next-lowest L c e r.disk r.stripe (o.chosen 0 (omega arith)) o.peels.0 in
      let more : x < L.disks = let l = a.disk in omega arith in
      let ok : allowed L e x s ≡ true = next-allowed L c e more in
      let (k, l, is) = named_where L e (r ∷ v) o.peels x (allowed_is L e x s ok).erased (o.whole x more (next-chosen L c e more)) in
      let least : r.disk ≤ x = first-lowest e r v o x s ok k l is in
      let disk : x ≡ r.disk = omega (arith, most, least) in
      let stripe : s ≡ r.stripe = o.sole 0 (omega arith) s (ap (λ (i : ℕ). allowed L e i s) (sym disk) ∙ ok) in
      (more, ap₂ (λ (i t : ℕ). record { disk = i; stripe = t }) disk stripe)

  -- So peeling gives the list.
  ordered-is : (v : List Entry) (k : ℕ) (e : ℕ → Bool) → length v ≤ k → Ordered L c e v → peel L c k e ≡ v
  unfolding after disk_of stripe_of repair_of
  ordered-is [] k e l o =
      peel-none L c k e (λ more.
      true≢false
      (sym (allowed_is L e _ _ (next-allowed L c e more)).erased ∙ o.whole (next_disk L c e) more (next-chosen L c e more)))
  ordered-is (r ∷ v) zero e l o = absurd (not-suc-le-zero l)
  ordered-is (r ∷ v) (suc k) e l o =
      let (more, is) = ordered-first e r v o in
      let disk : next_disk L c e ≡ r.disk = ap (λ (q : Entry). q.disk) is in
      peel-next L c k e more
      ∙ ap₂ (λ (q : Entry) (w : List Entry). q ∷ w) is
      (ap (λ (i : ℕ). peel L c k (without e i)) disk
      ∙ ordered-is v k (without e r.disk) (le_of_suc-le-suc l)
      (record {
        peels = o.peels.1;
        chosen = λ i h. o.chosen (suc i) (omega arith);
        whole = o.whole;
        sole = λ i h. o.sole (suc i) (omega arith);
        lowest = λ i k h m. o.lowest (suc i) (suc k) (omega arith) (omega arith);
      }))

module _ (L : Layout) (two : TwoStripes L) (e : ℕ → Bool) (d : ℕ) (w : List Entry) (x : Wanted L e d w) where
  its-peels : Peels L e (ending_with x.before d x.stripe)
  its-peels = subst (Peels L e) x.ends x.allowed_all

  pub wanted-reached : Reached L e d
  wanted-reached = (x.before, x.stripe, its-peels)

  -- Before the disk it repairs its side at the stripe by which it ends,
  its-before : x.before ≡ side_repairs L e d x.stripe
  unfolding side_repairs
  its-before =
      let v : List Entry = x.before in
      let t : ℕ = x.stripe in
      let c : ℕ → Bool = on_side L e d t in
      let last : List Entry = record { disk = d; stripe = t } ∷ [] in
      let peels : Peels L e v = peels_first L e v last its-peels in
      let least = side_shortest L two e d t v its-peels in
      let most = x.shortest (side_repairs L e d t) t (serves_peels L two e d t (side_serves L two e d t v its-peels)) in
      let fits : length v ≤ L.disks = let all = peel-count L e v peels in let some = count_le L.disks e in omega arith in
      sym (ordered-is L c v L.disks e fits
      (record {
        peels = peels;
        chosen = λ i l.
            let (m, h, k) = named-repaired L e v peels i l in
            side_only L two e d t v its-peels (omega (arith, least, most)) (disk_of v i) m h k;
        whole = side_reached L two e d t v its-peels;
        sole = λ i l s h.
            by_cases (λ (b : Bool). s ≡ stripe_of v i) (eqb s (stripe_of v i)) (λ q. eqb-true s (stripe_of v i) q)
            (λ q.
            let (fewer, long, up) = left_out L two v last e its-peels i l s h (eqb-false s (stripe_of v i) q) in
            let no = x.shortest fewer t up in
            absurd (omega (arith, long, no)));
        lowest = x.lowest_first;
      }))

  -- and it ends by the stripe that is taken.
  its-stripe : x.stripe ≡ wanted_stripe L e d
  its-stripe =
      let t : ℕ = wanted_stripe L e d in
      let b : Best L two e d t = best L two e d wanted-reached in
      let peels : Peels L e (ending_with (side_repairs L e d t) d t) = serves_peels L two e d t b.serving in
      let least = b.least x.before x.stripe its-peels in
      let most = x.shortest (side_repairs L e d t) t peels in
      let low = b.lowest x.before x.stripe its-peels (omega arith) in
      let high = x.lower_wins (side_repairs L e d t) t peels (omega arith) in
      omega (arith, low, high)

  -- So these words fix the list.
  pub wanted_unique : w ≡ wanted_repairs L e d
  unfolding wanted_repairs
  wanted_unique =
      x.ends ∙ ap (λ (v : List Entry). ending_with v d x.stripe) its-before
      ∙ ap (λ (t : ℕ). ending_with (side_repairs L e d t) d t) its-stripe
