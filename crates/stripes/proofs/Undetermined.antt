-- Which erased disks the survivors determine, how, and whether the survivors belong to a codeword: where each disk lies on two stripes.
-- Assumes nothing.
use mathlib.Core.Path.{◌≡◌, refl, sym, ◌∙◌, ap, ap₂}
use mathlib.Core.Bool.{Bool, true, false, cond, not, ◌&&◌}
use mathlib.Core.Logic.{◌↔◌}
use mathlib.Core.List.{List}
use Prim.Native.Nat.{ℕ, ◌+◌, ◌*◌, ◌≤◌, ◌<◌}
use borrow.Author.Tests.{eq-eqb, ne_eqb, eqb-true, eqb-false, not-true}
use lib.Dec.{eqb}
use lib.ListN.{length}
use Rattle.stripes.specs.Fold.{◌⊕◌, xsum, gate}
use Rattle.stripes.specs.System.{Layout, TwoStripes, lower, higher, byte, Bytes, sum_over, stripe_sum, Codeword, changed}
use Rattle.stripes.specs.Erased.{without, Agree, Belongs, AmbiguousIn}
use Rattle.stripes.specs.Joined.{part, joined, crosses}
use Rattle.stripes.specs.Undetermined.{undetermined, determined, survivor_sum, part_sum, parts_cancel, saved_byte}
use Rattle.stripes.specs.declared.Stretch.{Stretch}
use Rattle.stripes.proofs.Xor.{⊕_self, ⊕-zero, zero-⊕, ⊕-byte, ⊕_cancel, equal_of_zero, zero_of_equal}
use Rattle.stripes.proofs.Fold.{fails_with, eqb_comm, bit-gate, and_left, and_right, and_both, by_cases, xsum_ext, xsum-zero, xsum-only, xsum_at, xsum-byte, xsum-⊕, gate-⊕, gate-zero, gate_and, gate_split, gate-small, every_at, every_all, every-not}
use Rattle.stripes.proofs.Bytes.{small-byte, length-changed, changed-small, byte-changed}
use Rattle.stripes.proofs.Sums.{sum_over_ext, sum_over-⊕, sum_over-xsum}
use Rattle.stripes.proofs.Peel.{without_at, without_other, without_sub}
use Rattle.stripes.proofs.Core.{ones_differ}
use Rattle.stripes.proofs.Restore.{agree_gate}
use Rattle.stripes.proofs.Joined.{lower-bound, is_joined, joined-part, joined-disk, joined-whole, apart-crosses}
use Rattle.stripes.proofs.Ends.{Ends, ends_wider, ends-back, ends-chain, ends-disk, joined-ends_of, cut_sum_lem}

-- ---- sums over a part

-- An erased disk of c counts nothing in a part that c makes.
erased-whole : (L : Layout) (c e : ℕ → Bool) (t d : ℕ) → d < L.disks → (e d ≡ true → c d ≡ true) → (v : ℕ)
    → gate (crosses L (λ s. joined L c s t) d) (gate (e d) v) ≡ 0
unfolding gate
erased-whole L c e t d l sub v =
    by_cases (λ (b : Bool). gate (crosses L (λ s. joined L c s t) d) (gate b v) ≡ 0) (e d)
    (λ h. ap (λ (b : Bool). gate b v) (joined-whole L c d t (joined-disk L c d l (sub h))))
    (λ h. gate-zero (crosses L (λ s. joined L c s t) d))

-- A determined disk is erased, and the others do not join its stripes.
module _ (L : Layout) (e : ℕ → Bool) (d : ℕ) where
  pub determined-erased : determined L e d ≡ true → e d ≡ true
  unfolding determined
  determined-erased h = and_left (e d) (not (undetermined L e d)) h

  determined-apart : determined L e d ≡ true → joined L (without e d) (lower L d) (higher L d) ≡ false
  unfolding determined undetermined
  determined-apart h =
      ap (λ (b : Bool). b && joined L (without e d) (lower L d) (higher L d)) (sym (determined-erased h))
      ∙ not-true (undetermined L e d) (and_right (e d) (not (undetermined L e d)) h)

  -- So of its two stripes just one is in the part of the lower one.
  determined-crosses : determined L e d ≡ true → crosses L (λ s. joined L (without e d) s (lower L d)) d ≡ true
  determined-crosses h = apart-crosses L (without e d) d (determined-apart h)

module _ (L : Layout) (two : TwoStripes L) (x : Stretch) (e : ℕ → Bool) where
  -- The survivors' sum over a part is that of the survivors that have just one of their two stripes there.
  pub part_cut : (c : ℕ → Bool) (a : List ℕ) (p t : ℕ)
      → part_sum L x e c a p t ≡ xsum L.disks (λ d. gate (not (e d) && crosses L (λ s. joined L c s t) d) (byte x a d p))
  unfolding part_sum survivor_sum
  part_cut c a p t =
      cut_sum_lem L two (λ s. joined L c s t) (λ d. gate (not (e d)) (byte x a d p))
      ∙ xsum_ext L.disks (λ d l. gate_and (crosses L (λ s. joined L c s t) d) (not (e d)) (byte x a d p))

  -- Survivors of a codeword:
  module _ (a b : List ℕ) (word : Codeword L x b) (same : Agree L x e a b) (p : ℕ) (place : p < x.width) where
    -- on each stripe their sum is that of the codeword's erased disks,
    survivors-erased : (s : ℕ) → s < L.stripe_bound → survivor_sum L x e a p s ≡ sum_over L (λ d. gate (e d) (byte x b d p)) s
    unfolding survivor_sum stripe_sum
    survivors-erased s l =
        sum_over_ext L (λ d w. agree_gate L x e a b same d w p place) s
        ∙ equal_of_zero _ _
        (sym (sum_over_ext L (λ d w. gate_split (e d) (byte x b d p)) s
        ∙ sum_over-⊕ L (λ d. gate (not (e d)) (byte x b d p)) (λ d. gate (e d) (byte x b d p)) s)
        ∙ word.sums s l p place)

    -- and over a part it is that of the erased disks that have just one of their two stripes there.
    erased-cut : (c : ℕ → Bool) (t : ℕ)
        → part_sum L x e c a p t ≡ xsum L.disks (λ d. gate (crosses L (λ s. joined L c s t) d) (gate (e d) (byte x b d p)))
    unfolding part_sum
    erased-cut c t =
        xsum_ext L.stripe_bound (λ s l. ap (gate (joined L c s t)) (survivors-erased s l))
        ∙ cut_sum_lem L two (λ s. joined L c s t) (λ d. gate (e d) (byte x b d p))

    -- In a part that the erased disks make, it is none of them,
    part-cancels : (t : ℕ) → part_sum L x e e a p t ≡ 0
    part-cancels t = erased-cut e t ∙ xsum-zero L.disks (λ d l. erased-whole L e e t d l (λ h. h) (byte x b d p))

    -- and in the part of a determined disk's lower stripe, which the others make, it is this disk alone.
    part-saves : (d : ℕ) → d < L.disks → determined L e d ≡ true → saved_byte L x e a d p ≡ byte x b d p
    unfolding saved_byte gate
    part-saves d l h =
        erased-cut (without e d) (lower L d)
        ∙ xsum-only L.disks d l (λ i w q.
        erased-whole L (without e d) e (lower L d) i w (λ k. without_other e d i q ∙ k) (byte x b i p))
        ∙ ap₂ (λ (s t : Bool). gate s (gate t (byte x b d p))) (determined-crosses L e d h) (determined-erased L e d h)

  pub saved_byte_lem : (a b : List ℕ) → Codeword L x b → Agree L x e a b → (d : ℕ) → d < L.disks → determined L e d ≡ true
      → (p : ℕ) → p < x.width → saved_byte L x e a d p ≡ byte x b d p
  saved_byte_lem a b word same d l h p place = part-saves a b word same p place d l h

-- ---- whether the survivors belong to a codeword
module _ (L : Layout) (two : TwoStripes L) (x : Stretch) (e : ℕ → Bool) where
  -- Erased disks between a stripe and the one that names its part.
  way : (s : ℕ) → Ends L e s (part L e s)
  way s = joined-ends_of L e two s (part L e s) (joined-part L e s)

  -- What the sum of each stripe's survivors puts on the erased disks when it is carried to the stripe that names its part.
  unfoldable carried : List ℕ → (d p : ℕ) → ℕ
  carried a d p = xsum L.stripe_bound (λ s. gate ((way s).set d) (survivor_sum L x e a p s))

  carried_none : (a : List ℕ) (d p : ℕ) → e d ≡ false → carried a d p ≡ 0
  unfolding carried gate
  carried_none a d p h =
      xsum-zero L.stripe_bound (λ s l.
      ap (λ (b : Bool). gate b (survivor_sum L x e a p s)) (fails_with ((way s).set d) (e d) ((way s).within d) h))

  -- On each stripe this is its own sum, and all that arrives.
  carried-sum : (a : List ℕ) (p t : ℕ) → t < L.stripe_bound
      → sum_over L (λ d. carried a d p) t
      ≡ survivor_sum L x e a p t ⊕ xsum L.stripe_bound (λ s. gate (eqb t (part L e s)) (survivor_sum L x e a p s))
  unfolding carried
  carried-sum a p t l =
      sum_over-xsum L L.stripe_bound (λ s d. gate ((way s).set d) (survivor_sum L x e a p s)) t
      ∙ xsum_ext L.stripe_bound (λ s b. (way s).sum (survivor_sum L x e a p s) t)
      ∙ xsum-⊕ L.stripe_bound (λ s. gate (eqb t s) (survivor_sum L x e a p s)) (λ s. gate (eqb t (part L e s)) (survivor_sum L x e a p s))
      ∙ ap (λ (v : ℕ). v ⊕ xsum L.stripe_bound (λ s. gate (eqb t (part L e s)) (survivor_sum L x e a p s)))
      (xsum_ext L.stripe_bound (λ s b. ap (λ (q : Bool). gate q (survivor_sum L x e a p s)) (eqb_comm t s))
      ∙ xsum_at L.stripe_bound t l (survivor_sum L x e a p))

  -- What arrives is the sum of a part at the stripe that names it, and elsewhere nothing.
  arrives-none : (a : List ℕ) (p t : ℕ) → part_sum L x e e a p t ≡ 0
      → xsum L.stripe_bound (λ s. gate (eqb t (part L e s)) (survivor_sum L x e a p s)) ≡ 0
  unfolding part_sum joined gate
  arrives-none a p t none = go (eqb (part L e t) t) refl
    where
      go : (b : Bool) → eqb (part L e t) t ≡ b → xsum L.stripe_bound (λ s. gate (eqb t (part L e s)) (survivor_sum L x e a p s)) ≡ 0
      go true q =
          xsum_ext L.stripe_bound (λ s l.
          ap (λ (b : Bool). gate b (survivor_sum L x e a p s))
          (ap (λ (k : ℕ). eqb k (part L e s)) (sym (eqb-true (part L e t) t q)) ∙ eqb_comm (part L e t) (part L e s)))
          ∙ none
      go false q =
          xsum-zero L.stripe_bound (λ s l.
          ap (λ (b : Bool). gate b (survivor_sum L x e a p s))
          (ne_eqb t (part L e s) (λ k.
          eqb-false (part L e t) t q (ap (part L e) k ∙ sym (is_joined L e s (part L e s) (joined-part L e s)) ∙ sym k))))

  module _ (inside : x.offset + x.width ≤ x.block) (a : List ℕ) (sized : length a ≡ L.disks * x.block) (small : Bytes a) where
    -- So where each part's sum is zero, the array with these bytes on the erased disks is a codeword.
    unfoldable completed : List ℕ
    completed = changed x a (λ d p. cond (e d) (carried a d p) (byte x a d p))

    completed-byte : (d p : ℕ) → d < L.disks → p < x.width → byte x completed d p ≡ cond (e d) (carried a d p) (byte x a d p)
    unfolding completed
    completed-byte d p l h = byte-changed x inside L.disks a sized _ d p l h

    completed-split : (d p : ℕ) → cond (e d) (carried a d p) (byte x a d p) ≡ gate (not (e d)) (byte x a d p) ⊕ carried a d p
    unfolding gate
    completed-split d p =
        by_cases (λ (b : Bool). cond b (carried a d p) (byte x a d p) ≡ gate (not b) (byte x a d p) ⊕ carried a d p) (e d)
        (λ h. sym (zero-⊕ (carried a d p)))
        (λ h. sym (ap (λ (v : ℕ). byte x a d p ⊕ v) (carried_none a d p h) ∙ ⊕-zero (byte x a d p)))

    completed-small : Bytes completed
    unfolding completed carried survivor_sum sum_over
    completed-small =
        changed-small x a _
        (λ d p.
        by_cases (λ (b : Bool). cond b (carried a d p) (byte x a d p) < 256) (e d)
        (λ h. xsum-byte L.stripe_bound (λ s l. gate-small _ (xsum-byte L.disks (λ i w. gate-small _ (gate-small _ (small-byte a small x i p))))))
        (λ h. small-byte a small x d p))
        small

    completed-codeword : ((t : ℕ) → t < L.stripe_bound → (p : ℕ) → p < x.width → part_sum L x e e a p t ≡ 0) → Codeword L x completed
    unfolding completed stripe_sum survivor_sum
    completed-codeword zero-parts =
        record {
          sized = length-changed x a _ ∙ sized;
          bytes = completed-small;
          sums = λ t l p h.
              sum_over_ext L (λ d w. completed-byte d p w h ∙ completed-split d p) t
              ∙ sum_over-⊕ L (λ d. gate (not (e d)) (byte x a d p)) (λ d. carried a d p) t
              ∙ ap (λ (v : ℕ). survivor_sum L x e a p t ⊕ v) (carried-sum a p t l)
              ∙ ⊕_cancel (survivor_sum L x e a p t) _ ∙ arrives-none a p t (zero-parts t l p h);
        }

  -- The survivors belong to a codeword exactly if their sum over each part is zero.
  pub belongs_iff : x.offset + x.width ≤ x.block → (a : List ℕ) → length a ≡ L.disks * x.block → Bytes a
      → (parts_cancel L x e a ≡ true) ↔ Belongs L x e a
  unfolding parts_cancel
  belongs_iff inside a sized small = (
    λ ok. (
      completed inside a sized small,
      completed-codeword inside a sized small
          (λ t l p h. eqb-true (part_sum L x e e a p t) 0 (every_at x.width _ (every_at L.stripe_bound _ ok t l) p h)),
      λ d l k p h. sym (completed-byte inside a sized small d p l h ∙ ap (λ (b : Bool). cond b (carried a d p) (byte x a d p)) k),
    ),
    λ (b, word, same).
        every_all L.stripe_bound (λ t l.
        every_all x.width (λ p h. eq-eqb (part_sum L x e e a p t) 0 (part-cancels L two x e a b word same p h t))),
  )

-- ---- whether one damaged survivor shows
module _ (L : Layout) (two : TwoStripes L) (x : Stretch) (e : ℕ → Bool) (a b : List ℕ) (word : Codeword L x b)
    (d : ℕ) (l : d < L.disks) (kept : e d ≡ false)
    (same : (i : ℕ) → i < L.disks → e i ≡ false → (i ≡ d → ⊥) → (p : ℕ) → p < x.width → byte x a i p ≡ byte x b i p) where
  -- Survivors of a codeword but for disk d: their sum over a part is what d differs by, if d has just one of its two stripes there.
  damage-sum : (p t : ℕ) → p < x.width → part_sum L x e e a p t ≡ gate (crosses L (λ s. joined L e s t) d) (byte x a d p ⊕ byte x b d p)
  unfolding gate
  damage-sum p t h =
      let cross : ℕ → Bool = crosses L (λ s. joined L e s t) in
      sym (⊕-zero _)
      ∙ ap₂ (λ (v w : ℕ). v ⊕ w) (part_cut L two x e e a p t)
      (sym (part-cancels L two x e b b word (λ i w k p h. refl) p h t) ∙ part_cut L two x e e b p t)
      ∙ sym (xsum-⊕ L.disks (λ i. gate (not (e i) && cross i) (byte x a i p)) (λ i. gate (not (e i) && cross i) (byte x b i p)))
      ∙ xsum-only L.disks d l (λ i w q.
      by_cases (λ (u : Bool). gate (not u && cross i) (byte x a i p) ⊕ gate (not u && cross i) (byte x b i p) ≡ 0) (e i)
      (λ k. ⊕_self 0)
      (λ k. zero_of_equal _ _ (ap (gate (cross i)) (same i w k q p h))))
      ∙ sym (gate-⊕ (not (e d) && cross d) (byte x a d p) (byte x b d p))
      ∙ ap (λ (u : Bool). gate (not u && cross d) (byte x a d p ⊕ byte x b d p)) kept

  -- So one damaged survivor shows exactly if the erased disks do not join its two stripes.
  pub damage_shown : (p : ℕ) × (p < x.width) × (byte x a d p ≡ byte x b d p → ⊥)
      → parts_cancel L x e a ≡ joined L e (lower L d) (higher L d)
  unfolding parts_cancel gate
  damage_shown (p, h, differ) =
      by_cases (λ (u : Bool). parts_cancel L x e a ≡ u) (joined L e (lower L d) (higher L d))
      (λ k.
      every_all L.stripe_bound (λ t m.
      every_all x.width (λ q n.
      eq-eqb (part_sum L x e e a q t) 0 (damage-sum q t n ∙ ap (λ (u : Bool). gate u (byte x a d q ⊕ byte x b d q)) (joined-whole L e d t k)))))
      (λ k.
      every-not L.stripe_bound _ (lower L d) (lower-bound L two d l)
      (every-not x.width _ p h
      (ne_eqb (part_sum L x e e a p (lower L d)) 0 (λ none.
      differ (equal_of_zero _ _
      (sym (damage-sum p (lower L d) h ∙ ap (λ (u : Bool). gate u (byte x a d p ⊕ byte x b d p)) (apart-crosses L e d k)) ∙ none))))))

-- ---- which disks are undetermined

-- Two codewords that agree on the survivors differ in erased disks only.
pub ambiguous_erased : (L : Layout) (x : Stretch) (e : ℕ → Bool) (d : ℕ) → d < L.disks → AmbiguousIn L x e d → e d ≡ true
ambiguous_erased L x e d l (a, b, first, second, same, (p, h, differ)) =
    by_cases (λ (t : Bool). t ≡ true) (e d) (λ k. refl) (λ k. absurd (differ (same d l k p h)))

module _ (L : Layout) (two : TwoStripes L) (x : Stretch) (e : ℕ → Bool) where
  -- Other erased disks that join the two stripes of d make with d a set that has no ends.
  closed : (d : ℕ) → d < L.disks → undetermined L e d ≡ true → (f : Ends L e (lower L d) (lower L d)) × (f.set d ≡ true)
  unfolding undetermined ends-chain ends-disk ends_wider ends-back
  closed d l h =
      let c : ℕ → Bool = without e d in
      let f : Ends L c (lower L d) (higher L d) = joined-ends_of L c two (lower L d) (higher L d) (and_right (e d) _ h) in
      let out : f.set d ≡ false = fails_with (f.set d) (c d) (f.within d) (without_at e d) in (
        ends-chain L e (lower L d) (higher L d) (lower L d)
            (ends-disk L e two d l (and_left (e d) _ h))
            (ends_wider L c e (without_sub e d) (higher L d) (lower L d) (ends-back L c (lower L d) (higher L d) f)),
        ap₂ (λ (s t : Bool). cond s (not t) t) (eq-eqb d d refl) out,
      )

  -- So the survivors of a codeword say nothing of an undetermined disk: they belong to a codeword with any bytes there.
  pub any_bytes : x.offset + x.width ≤ x.block → (b : List ℕ) → Codeword L x b → (d : ℕ) → d < L.disks → undetermined L e d ≡ true
      → (v : ℕ → ℕ) → ((p : ℕ) → v p < 256)
      → (c : List ℕ) × Codeword L x c × Agree L x e b c × ((p : ℕ) → p < x.width → byte x c d p ≡ v p)
  unfolding gate stripe_sum
  any_bytes inside b word d l h v small =
      let (f, here) = closed d l h in
      let w : ℕ → ℕ = λ p. byte x b d p ⊕ v p in
      let g : ℕ → ℕ → ℕ = λ i p. byte x b i p ⊕ gate (f.set i) (w p) in
      let own : (i p : ℕ) → byte x b i p < 256 = small-byte b word.bytes x in
      let at : (i p : ℕ) → i < L.disks → p < x.width → byte x (changed x b g) i p ≡ g i p =
      byte-changed x inside L.disks b word.sized g in (
        changed x b g,
        record {
          sized = length-changed x b g ∙ word.sized;
          bytes = changed-small x b g (λ i p. ⊕-byte (own i p) (gate-small (f.set i) (⊕-byte (own d p) (small p)))) word.bytes;
          sums = λ s k p q.
              sum_over_ext L (λ i m. at i p m q) s ∙ sum_over-⊕ L (λ i. byte x b i p) (λ i. gate (f.set i) (w p)) s
              ∙ ap₂ (λ (y z : ℕ). y ⊕ z) (word.sums s k p q) (f.sum (w p) s ∙ ⊕_self _) ∙ ⊕_self 0;
        },
        λ i m k p q.
            sym (at i p m q ∙ ap (λ (t : Bool). byte x b i p ⊕ gate t (w p)) (fails_with (f.set i) (e i) (f.within i) k)
            ∙ ⊕-zero (byte x b i p)),
        λ p q. at d p l q ∙ ap (λ (t : Bool). byte x b d p ⊕ gate t (w p)) here ∙ ⊕_cancel (byte x b d p) (v p),
      )

  -- The survivors leave exactly the undetermined disks open: ones on such a set are a codeword, as zeros are, and a determined disk has
  -- the bytes that are saved.
  pub undetermined_iff : x.offset + x.width ≤ x.block → 0 < x.width → (d : ℕ) → d < L.disks
      → (undetermined L e d ≡ true) ↔ AmbiguousIn L x e d
  unfolding determined
  undetermined_iff inside some d l = (
    λ h.
        let (f, here) = closed d l h in
        ones_differ L x inside some f.set e (λ s. sum_over_ext L (λ i w. bit-gate (f.set i)) s ∙ f.sum 1 s ∙ ⊕_self _) f.within d l here,
    λ both.
        let (a, b, first, second, same, (p, h, differ)) = both in
        by_cases (λ (t : Bool). t ≡ true) (undetermined L e d) (λ u. refl)
        (λ u.
        let saves : determined L e d ≡ true = and_both (ambiguous_erased L x e d l both) (ap not u) in
        absurd (differ
        (sym (saved_byte_lem L two x e a a first (λ d l k p h. refl) d l saves p h) ∙ saved_byte_lem L two x e a b second same d l saves p h))),
  )
