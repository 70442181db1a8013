-- The laws of repairs and of plan's order over any stripe system.
-- Assumes nothing.
use mathlib.Core.Path.{◌≡◌, refl, sym, ◌∙◌, ap, ap₂, subst, fun_ext}
use mathlib.Core.Bool.{Bool, true, false, cond, not, ◌&&◌, ◌||◌, and-true, and-false, true≢false, false≢true}
use mathlib.Core.Logic.{⊎_elim, ◌↔◌}
use mathlib.Core.List.{List, ◌∷◌, ◌++◌, []}
use Prim.Native.Nat.{ℕ, zero, suc, ◌+◌, ◌≤◌, ◌<◌}
use native.Mathlib.Nat.{zero-add, le_of_suc-le-suc, eq-or-lt_of_le, not-suc-le-zero, lt_of_le_of_lt}
use native.Mathlib.Decide.{dec_lt}
use native.Mathlib.Numerals.{add-one}
use native.Mathlib.Omega.{arith}
use borrow.Author.Tests.{eq-eqb, ne_eqb, eqb-true, eqb-false, ltb-true, ltb-false, lt-ltb, le-ltb, not-true, not-false}
use lib.Dec.{eqb, ltb}
use lib.ListN.{length, take, get_or}
use lib.Seq.{take-length, take-suc}
use Rattle.stripes.specs.Fold.{bit, count}
use Rattle.stripes.specs.System.{Layout, among, on, Rising, Ordered}
use Rattle.stripes.specs.Erased.{without}
use Rattle.stripes.specs.Repair.{Entry, alone, allowed, first_allowed, some_allowed, Peels, next_disk, repair_of, peel, any_disk, repairs, after, residual, fatal, disk_of, stripe_of, InOrder, residual_count}
use Rattle.stripes.proofs.Fold.{bit-zero, and_left, and_right, and_both, or_left, or_right, same_test, by_cases, lt_or_le, every_at, every_all, every_fails, count_le, count_none, count-zero-none, count-some, count_found, count-first, count-without, lowest_is, lowest_ext}

-- ---- erased disks

-- Every disk of c is one of e.
abbrev pub Within : Layout → (c e : ℕ → Bool) → Type 0
Within L c e = (d : ℕ) → d < L.disks → c d ≡ true → e d ≡ true

pub without_at : (e : ℕ → Bool) (d : ℕ) → without e d d ≡ false
unfolding without
without_at e d = ap (λ (b : Bool). e d && not b) (eq-eqb d d refl) ∙ and-false (e d)

pub without_other : (e : ℕ → Bool) (d i : ℕ) → (i ≡ d → ⊥) → without e d i ≡ e i
unfolding without
without_other e d i h = ap (λ (b : Bool). e i && not b) (ne_eqb i d h) ∙ and-true (e i)

pub without_sub : (e : ℕ → Bool) (d i : ℕ) → without e d i ≡ true → e i ≡ true
unfolding without
without_sub e d i h = and_left (e i) (not (eqb i d)) h

pub without-apart : (e : ℕ → Bool) (d i : ℕ) → without e d i ≡ true → i ≡ d → ⊥
unfolding without
without-apart e d i h = eqb-false i d (not-true (eqb i d) (and_right (e i) (not (eqb i d)) h))

-- An erased disk that is taken away, and the others.
pub without-bit : (e : ℕ → Bool) (d i : ℕ) → e d ≡ true → bit (eqb d i) + bit (without e d i) ≡ bit (e i)
unfolding bit
without-bit e d i h = go (eqb d i) refl
  where
    go : (b : Bool) → eqb d i ≡ b → bit b + bit (without e d i) ≡ bit (e i)
    go true q =
        let gone : bit (without e d i) ≡ 0 = ap bit (ap (without e d) (sym (eqb-true d i q)) ∙ without_at e d) in
        let here : bit (e i) ≡ 1 = ap bit (ap e (sym (eqb-true d i q)) ∙ h) in
        omega arith
    go false q = let same = ap bit (without_other e d i (λ k. eqb-false d i q (sym k))) in omega arith

-- ---- repairs that are allowed

-- No repair is allowed.
abbrev pub Stuck : Layout → (ℕ → Bool) → Type 0
Stuck L e = (d s : ℕ) → allowed L e d s ≡ false

-- No repair of a disk of c is allowed.
abbrev pub Ended : Layout → (c e : ℕ → Bool) → Type 0
Ended L c e = (d s : ℕ) → c d ≡ true → allowed L e d s ≡ false

-- What the test of a repair says.
pub record Allowed (L : Layout) (e : ℕ → Bool) (d s : ℕ) : Type 0 where
  pub disk : d < L.disks
  pub erased : e d ≡ true
  pub here : on L d s ≡ true
  pub only : (i : ℕ) → i < L.disks → (i ≡ d → ⊥) → e i ≡ true → on L i s ≡ false

pub allowed_is : (L : Layout) (e : ℕ → Bool) (d s : ℕ) → allowed L e d s ≡ true → Allowed L e d s
unfolding allowed alone
allowed_is L e d s h =
    let first : (ltb d L.disks && e d) ≡ true = and_left (ltb d L.disks && e d) (on L d s && alone L e d s) h in
    let second : (on L d s && alone L e d s) ≡ true = and_right (ltb d L.disks && e d) (on L d s && alone L e d s) h in
    record {
      disk = ltb-true d L.disks (and_left (ltb d L.disks) (e d) first);
      erased = and_right (ltb d L.disks) (e d) first;
      here = and_left (on L d s) (alone L e d s) second;
      only = λ i l q k.
          let apart : (eqb i d || not (e i && on L i s)) ≡ true =
          every_at L.disks (λ i. eqb i d || not (e i && on L i s)) (and_right (on L d s) (alone L e d s) second) i l in
          ap (λ (b : Bool). b && on L i s) (sym k)
          ∙ not-true (e i && on L i s) (ap (λ (b : Bool). b || not (e i && on L i s)) (sym (ne_eqb i d q)) ∙ apart);
    }

pub allowed_of : {L : Layout} {e : ℕ → Bool} {d s : ℕ} → Allowed L e d s → allowed L e d s ≡ true
unfolding allowed alone
allowed_of {L} {e} {d} {s} a =
    and_both (and_both (lt-ltb d L.disks a.disk) a.erased)
    (and_both a.here
    (every_all L.disks (λ i l.
    by_cases (λ (b : Bool). (b || not (e i && on L i s)) ≡ true) (eqb i d) (λ q. refl)
    (λ q.
    by_cases (λ (b : Bool). not (b && on L i s) ≡ true) (e i)
    (λ k. ap not (a.only i l (eqb-false i d q) k)) (λ k. refl)))))

-- ---- where no repair is allowed

-- On each stripe through an erased disk there is another.
pub stuck_other : (L : Layout) (c : ℕ → Bool) → Stuck L c → (d s : ℕ) → d < L.disks → c d ≡ true → on L d s ≡ true
    → (i : ℕ) × (i < L.disks) × (i ≡ d → ⊥) × (c i ≡ true) × (on L i s ≡ true)
unfolding allowed alone
stuck_other L c stuck d s l h k =
    let crowded : alone L c d s ≡ false =
    ap₂ (λ (x y : Bool). x && (y && alone L c d s)) (sym (and_both (lt-ltb d L.disks l) h)) (sym k) ∙ stuck d s in
    let (i, w, fails) = every_fails L.disks (λ i. eqb i d || not (c i && on L i s)) crowded in
    let both : (c i && on L i s) ≡ true = not-false (c i && on L i s) (or_right (eqb i d) (not (c i && on L i s)) fails) in
    (i, w, eqb-false i d (or_left (eqb i d) (not (c i && on L i s)) fails), and_left (c i) (on L i s) both, and_right (c i) (on L i s) both)

-- And where that is so, no repair is allowed.
pub other_stuck : (L : Layout) (c : ℕ → Bool)
    → ((d s : ℕ) → d < L.disks → c d ≡ true → on L d s ≡ true
    → (i : ℕ) × (i < L.disks) × (i ≡ d → ⊥) × (c i ≡ true) × (on L i s ≡ true))
    → Stuck L c
other_stuck L c other d s =
    by_cases (λ (b : Bool). b ≡ false) (allowed L c d s)
    (λ h.
    let a : Allowed L c d s = allowed_is L c d s h in
    let (i, l, q, k, w) = other d s a.disk a.erased a.here in
    sym w ∙ a.only i l q k)
    (λ h. refl)

pub none_stuck : (L : Layout) (e : ℕ → Bool) → count L.disks e ≡ 0 → Stuck L e
none_stuck L e z = other_stuck L e (λ d s l h k. absurd (true≢false (sym h ∙ count-zero-none L.disks e z d l)))

-- ---- lists of repairs

-- Repairs add no erased disk.
pub after_sub : (e : ℕ → Bool) (w : List Entry) (i : ℕ) → after e w i ≡ true → e i ≡ true
unfolding after
after_sub e [] i h = h
after_sub e (r ∷ rs) i h = without_sub e r.disk i (after_sub (without e r.disk) rs i h)

pub after_append : (e : ℕ → Bool) (v w : List Entry) → after e (v ++ w) ≡ after (after e v) w
unfolding after
after_append e [] w = refl
after_append e (r ∷ rs) w = after_append (without e r.disk) rs w

pub after_snoc : (e : ℕ → Bool) (w : List Entry) (r : Entry) → after e (w ++ (r ∷ [])) ≡ without (after e w) r.disk
unfolding after
after_snoc e w r = after_append e w (r ∷ [])

module _ (L : Layout) where
  -- Repairs name disks only.
  pub after_outside : (e : ℕ → Bool) (w : List Entry) → Peels L e w → (d : ℕ) → L.disks ≤ d → after e w d ≡ e d
  unfolding after
  after_outside e [] p d h = refl
  after_outside e (r ∷ rs) p d h =
      let l : r.disk < L.disks = (allowed_is L e r.disk r.stripe p.0).disk in
      after_outside (without e r.disk) rs p.1 d h ∙ without_other e r.disk d (λ q. omega arith)

  -- No repair reaches a disk of a stuck subset.
  stuck-apart : (c e : ℕ → Bool) → Within L c e → Stuck L c → (r : Entry) → allowed L e r.disk r.stripe ≡ true
      → (d : ℕ) → c d ≡ true → d ≡ r.disk → ⊥
  stuck-apart c e sub stuck r h d k q =
      let a : Allowed L e r.disk r.stripe = allowed_is L e r.disk r.stripe h in
      let (i, l, p, m, w) = stuck_other L c stuck r.disk r.stripe a.disk (ap c (sym q) ∙ k) a.here in
      true≢false (sym w ∙ a.only i l p (sub i l m))

  pub stuck_stays : (c e : ℕ → Bool) → Within L c e → Stuck L c → (w : List Entry) → Peels L e w → Within L c (after e w)
  unfolding after
  stuck_stays c e sub stuck [] p = sub
  stuck_stays c e sub stuck (r ∷ rs) p =
      stuck_stays c (without e r.disk)
      (λ d l k. without_other e r.disk d (stuck-apart c e sub stuck r p.0 d k) ∙ sub d l k) stuck rs p.1

-- ---- the next repair
module _ (L : Layout) (e : ℕ → Bool) where
  some-allowed : (d : ℕ) (ss : List ℕ) → some_allowed L e d ss ≡ true → allowed L e d (first_allowed L e d ss) ≡ true
  unfolding some_allowed first_allowed
  some-allowed d [] h = absurd (false≢true h)
  some-allowed d (s ∷ ss) h = go (allowed L e d s) refl (some-allowed d ss)
    where
      go : (b : Bool) → allowed L e d s ≡ b → (some_allowed L e d ss ≡ true → allowed L e d (first_allowed L e d ss) ≡ true)
          → allowed L e d (cond b s (first_allowed L e d ss)) ≡ true
      go true q up = q
      go false q up = up (ap (λ (b : Bool). b || some_allowed L e d ss) (sym q) ∙ h)

  none_allowed : (d : ℕ) (ss : List ℕ) → some_allowed L e d ss ≡ false → (s : ℕ) → among s ss ≡ true → allowed L e d s ≡ false
  unfolding some_allowed among
  none_allowed d [] h s k = absurd (false≢true k)
  none_allowed d (t ∷ ts) h s k = go (eqb s t) refl (none_allowed d ts (or_right (allowed L e d t) (some_allowed L e d ts) h) s)
    where
      go : (b : Bool) → eqb s t ≡ b → (among s ts ≡ true → allowed L e d s ≡ false) → allowed L e d s ≡ false
      go true q up = ap (allowed L e d) (eqb-true s t q) ∙ or_left (allowed L e d t) (some_allowed L e d ts) h
      go false q up = up (ap (λ (b : Bool). b || among s ts) (sym q) ∙ k)

  -- A disk is repaired by the lowest of its stripes that are allowed.
  first-lowest : (d : ℕ) (ss : List ℕ) → Rising ss → (s : ℕ) → among s ss ≡ true → allowed L e d s ≡ true → first_allowed L e d ss ≤ s
  unfolding first_allowed among
  first-lowest d [] up s k h = absurd (false≢true k)
  first-lowest d (t ∷ ts) up s k h = go (λ m. first-lowest d ts up.1 s m h) (allowed L e d t) refl (eqb s t) refl
    where
      go : (among s ts ≡ true → first_allowed L e d ts ≤ s)
          → (x : Bool) → allowed L e d t ≡ x → (i : Bool) → eqb s t ≡ i → cond x t (first_allowed L e d ts) ≤ s
      go later true p true q = let same = eqb-true s t q in omega arith
      go later true p false q = let above = up.0 s (ap (λ (b : Bool). b || among s ts) (sym q) ∙ k) in omega arith
      go later false p true q = absurd (true≢false (sym h ∙ ap (allowed L e d) (eqb-true s t q) ∙ p))
      go later false p false q = later (ap (λ (b : Bool). b || among s ts) (sym q) ∙ k)

  pub next-stripe : Ordered L → (d s : ℕ) → allowed L e d s ≡ true → (repair_of L e d).stripe ≤ s
  unfolding repair_of on
  next-stripe ordered d s h =
      let a : Allowed L e d s = allowed_is L e d s h in
      first-lowest d (L.through d) (ordered.rising d a.disk) s a.here h

module _ (L : Layout) (c e : ℕ → Bool) where
  next-found : next_disk L c e < L.disks
      → (c (next_disk L c e) && some_allowed L e (next_disk L c e) (L.through (next_disk L c e))) ≡ true
  unfolding next_disk
  next-found l = (lowest_is L.disks (λ d. c d && some_allowed L e d (L.through d))).found l

  pub next-chosen : next_disk L c e < L.disks → c (next_disk L c e) ≡ true
  next-chosen l = and_left (c (next_disk L c e)) _ (next-found l)

  pub next-allowed : next_disk L c e < L.disks → allowed L e (next_disk L c e) (repair_of L e (next_disk L c e)).stripe ≡ true
  unfolding repair_of
  next-allowed l = some-allowed L e (next_disk L c e) (L.through (next_disk L c e)) (and_right (c (next_disk L c e)) _ (next-found l))

  -- No disk of c with a lower number can be repaired.
  pub next-lowest : (d s : ℕ) → c d ≡ true → allowed L e d s ≡ true → next_disk L c e ≤ d
  unfolding next_disk on
  next-lowest d s k h = ⊎_elim (λ l. absurd (true≢false (sym h ∙ earlier l))) (λ l. l) (lt_or_le d (next_disk L c e))
    where
      earlier : d < next_disk L c e → allowed L e d s ≡ false
      earlier l =
          none_allowed L e d (L.through d)
          (ap (λ (b : Bool). b && some_allowed L e d (L.through d)) (sym k)
          ∙ (lowest_is L.disks (λ d. c d && some_allowed L e d (L.through d))).none d l)
          s (allowed_is L e d s h).here

  -- Where there is no next repair, none is allowed, and the other way round.
  pub next-none : ¬ (next_disk L c e < L.disks) → Ended L c e
  next-none n d s k =
      by_cases (λ (b : Bool). b ≡ false) (allowed L e d s)
      (λ h.
      let low : next_disk L c e ≤ d = next-lowest d s k h in
      let l : d < L.disks = (allowed_is L e d s h).disk in
      absurd (n (lt_of_le_of_lt low l)))
      (λ h. refl)

  pub ended_none : Ended L c e → ¬ (next_disk L c e < L.disks)
  ended_none ended l =
      true≢false (sym (next-allowed l) ∙ ended (next_disk L c e) (repair_of L e (next_disk L c e)).stripe (next-chosen l))

-- ---- repairs by lowest number
module _ (L : Layout) (c : ℕ → Bool) where
  pub peel-next : (k : ℕ) (e : ℕ → Bool) → next_disk L c e < L.disks
      → peel L c (suc k) e ≡ repair_of L e (next_disk L c e) ∷ peel L c k (without e (next_disk L c e))
  unfolding peel
  peel-next k e l =
      ap (λ (b : Bool). cond b (repair_of L e (next_disk L c e) ∷ peel L c k (without e (next_disk L c e))) []) (lt-ltb (next_disk L c e) L.disks l)

  pub peel-none : (k : ℕ) (e : ℕ → Bool) → ¬ (next_disk L c e < L.disks) → peel L c k e ≡ []
  unfolding peel
  peel-none zero e n = refl
  peel-none (suc k) e n =
      ap (λ (b : Bool). cond b (repair_of L e (next_disk L c e) ∷ peel L c k (without e (next_disk L c e))) [])
      (le-ltb (next_disk L c e) L.disks (omega arith))

  -- What holds of the list at each step holds of the whole list.
  pub by-peel {ℓ} : (P : ℕ → (ℕ → Bool) → List Entry → Type ℓ)
      → ((e : ℕ → Bool) → P 0 e [])
      → ((k : ℕ) (e : ℕ → Bool) → ¬ (next_disk L c e < L.disks) → P (suc k) e [])
      → ((k : ℕ) (e : ℕ → Bool) (w : List Entry) → next_disk L c e < L.disks
      → P k (without e (next_disk L c e)) w → P (suc k) e (repair_of L e (next_disk L c e) ∷ w))
      → (k : ℕ) (e : ℕ → Bool) → P k e (peel L c k e)
  unfolding peel
  by-peel P start stop step zero e = start e
  by-peel P start stop step (suc k) e = go (dec_lt (next_disk L c e) L.disks) (by-peel P start stop step k (without e (next_disk L c e)))
    where
      go : Dec (next_disk L c e < L.disks) → P k (without e (next_disk L c e)) (peel L c k (without e (next_disk L c e))) → P (suc k) e (peel L c (suc k) e)
      go (yes l) up = subst (P (suc k) e) (sym (peel-next k e l)) (step k e _ l up)
      go (no n) up = subst (P (suc k) e) (sym (peel-none (suc k) e n)) (stop k e n)

  pub peel_peels : (k : ℕ) (e : ℕ → Bool) → Peels L e (peel L c k e)
  unfolding repair_of
  peel_peels = by-peel (λ k e w. Peels L e w) (λ e. tt) (λ k e n. tt) (λ k e w l up. (next-allowed L c e l, up))

  -- Disks that are not in c stay as they are.
  pub peel-others : (k : ℕ) (e : ℕ → Bool) (d : ℕ) → c d ≡ false → after e (peel L c k e) d ≡ e d
  unfolding after repair_of
  peel-others k e d out =
      by-peel (λ k e w. after e w d ≡ e d) (λ e. refl) (λ k e n. refl)
      (λ k e w l up.
      up ∙ without_other e (next_disk L c e) d (λ q. true≢false (sym (next-chosen L c e l) ∙ ap c (sym q) ∙ out))) k e

  -- With as many steps as there are erased disks, no repair is left.
  pub peel-ends : (k : ℕ) (e : ℕ → Bool) → count L.disks e ≤ k → Ended L c (after e (peel L c k e))
  unfolding after repair_of without
  peel-ends =
      by-peel (λ k e w. count L.disks e ≤ k → Ended L c (after e w))
      (λ e few d s h. none_stuck L e (omega arith) d s)
      (λ k e n few. next-none L c e n)
      (λ k e w l up few.
      let a : Allowed L e (next_disk L c e) (repair_of L e (next_disk L c e)).stripe = allowed_is L e _ _ (next-allowed L c e l) in
      let fewer = count-without L.disks e (next_disk L c e) l a.erased in
      up (omega arith))

-- Which disks are in c matters for disks only.
module _ (L : Layout) (c f : ℕ → Bool) (same : (d : ℕ) → d < L.disks → c d ≡ f d) where
  next-choice : (e : ℕ → Bool) → next_disk L c e ≡ next_disk L f e
  unfolding next_disk
  next-choice e = lowest_ext L.disks (λ d l. ap (λ (b : Bool). b && some_allowed L e d (L.through d)) (same d l))

  pub peel_choice : (k : ℕ) (e : ℕ → Bool) → peel L c k e ≡ peel L f k e
  unfolding peel
  peel_choice zero e = refl
  peel_choice (suc k) e =
      let d : ℕ = next_disk L f e in
      rw (next-choice e)
      (ap (λ (w : List Entry). cond (ltb d L.disks) (repair_of L e d ∷ w) []) (peel_choice k (without e d)))

-- So plan's order holds back a number that is no disk's.
pub repairs-held : (L : Layout) (n : ℕ) → L.disks ≤ n → (e : ℕ → Bool) → peel L (without any_disk n) L.disks e ≡ repairs L e
unfolding repairs
repairs-held L n h e = peel_choice L (without any_disk n) any_disk (λ d l. without_other any_disk n d (λ q. omega arith)) L.disks e

-- ---- plan's order
module _ (L : Layout) where
  pub repairs_peels : (e : ℕ → Bool) → Peels L e (repairs L e)
  unfolding repairs
  repairs_peels e = peel_peels L any_disk L.disks e

  pub residual_stuck : (e : ℕ → Bool) → Stuck L (residual L e)
  unfolding residual repairs
  residual_stuck e d s = peel-ends L any_disk L.disks e (count_le L.disks e) d s refl

  pub residual_sub : (e : ℕ → Bool) (d : ℕ) → residual L e d ≡ true → e d ≡ true
  unfolding residual
  residual_sub e d h = after_sub e (repairs L e) d h

-- ---- what is left
module _ (L : Layout) where
  -- What plan's order leaves contains every stuck subset.
  pub residual_largest : (c e : ℕ → Bool) → Within L c e → Stuck L c → Within L c (residual L e)
  unfolding residual
  residual_largest c e sub stuck = stuck_stays L c e sub stuck (repairs L e) (repairs_peels L e)

  -- Any order leaves the same.
  pub order_free : (e : ℕ → Bool) (w : List Entry) → Peels L e w → Stuck L (after e w) → (d : ℕ) → after e w d ≡ residual L e d
  order_free e w p stuck d = ⊎_elim inside outside (lt_or_le d L.disks)
    where
      inside : d < L.disks → after e w d ≡ residual L e d
      inside l =
          same_test (after e w d) (residual L e d) (residual_largest (after e w) e (λ i m. after_sub e w i) stuck d l)
          (stuck_stays L (residual L e) e (λ i m. residual_sub L e i) (residual_stuck L e) w p d l)

      outside : L.disks ≤ d → after e w d ≡ residual L e d
      outside l = after_outside L e w p d l ∙ sym (unfold residual in after_outside L e (repairs L e) (repairs_peels L e) d l)

  pub order_free_all : (e : ℕ → Bool) (w : List Entry) → Peels L e w → Stuck L (after e w) → after e w ≡ residual L e
  order_free_all e w p stuck = fun_ext (order_free e w p stuck)

  pub not-fatal : (e : ℕ → Bool) → (fatal L e ≡ false) ↔ ((d : ℕ) → d < L.disks → residual L e d ≡ false)
  unfolding fatal residual_count
  not-fatal e = (
    λ h. let z = ltb-false 0 (count L.disks (residual L e)) h in count-zero-none L.disks (residual L e) (omega arith),
    λ h. let z = count_none L.disks h in le-ltb 0 (count L.disks (residual L e)) (omega arith),
  )

  pub is_fatal : (e : ℕ → Bool) → (fatal L e ≡ true) ↔ ((d : ℕ) × (d < L.disks) × (residual L e d ≡ true))
  unfolding fatal residual_count
  is_fatal e = (
    λ h. count_found L.disks (residual L e) (ltb-true 0 (count L.disks (residual L e)) h),
    λ h. lt-ltb 0 (count L.disks (residual L e)) (count-some L.disks (residual L e) h.0 h.1 h.2),
  )

  pub fatal_of_stuck : (c e : ℕ → Bool) → Within L c e → Stuck L c → (d : ℕ) → d < L.disks → c d ≡ true → fatal L e ≡ true
  fatal_of_stuck c e sub stuck d l h = (is_fatal e).1 (d, l, residual_largest c e sub stuck d l h)

  -- The loss of more disks is fatal too.
  pub fatal_mono : (e f : ℕ → Bool) → Within L e f → fatal L e ≡ true → fatal L f ≡ true
  fatal_mono e f sub h =
      let (d, l, k) = (is_fatal e).0 h in
      fatal_of_stuck (residual L e) f (λ i m w. sub i m (residual_sub L e i w)) (residual_stuck L e) d l k

  -- ---- how many

  -- Each repair takes one erased disk away.
  pub peel-count : (e : ℕ → Bool) (w : List Entry) → Peels L e w → length w + count L.disks (after e w) ≡ count L.disks e
  unfolding after without
  peel-count e [] p = zero-add (count L.disks e)
  peel-count e (r ∷ rs) p =
      let a : Allowed L e r.disk r.stripe = allowed_is L e r.disk r.stripe p.0 in
      let fewer : count L.disks (without e r.disk) + 1 ≡ count L.disks e = count-without L.disks e r.disk a.disk a.erased in
      let up = peel-count (without e r.disk) rs p.1 in
      omega arith

  pub repairs-left : (e : ℕ → Bool) → length (repairs L e) + residual_count L e ≡ count L.disks e
  unfolding residual_count residual
  repairs-left e = peel-count e (repairs L e) (repairs_peels L e)

  pub residual-none : (e : ℕ → Bool) → fatal L e ≡ false → residual_count L e ≡ 0
  unfolding fatal
  residual-none e h = let z = ltb-false 0 (residual_count L e) h in omega arith

  pub repairs-count : (e : ℕ → Bool) → fatal L e ≡ false → length (repairs L e) ≡ count L.disks e
  repairs-count e h = let z = residual-none e h in let all = repairs-left e in omega arith

-- ---- turn by turn

-- The disks that are still erased when repair number i has its step.
abbrev pub at_turn : (ℕ → Bool) → List Entry → ℕ → ℕ → Bool
at_turn e w i = after e (take i w)

module _ (L : Layout) where
  pub peels_at : (e : ℕ → Bool) (w : List Entry) → Peels L e w
      → (i : ℕ) → i < length w → allowed L (at_turn e w i) (disk_of w i) (stripe_of w i) ≡ true
  unfolding after disk_of stripe_of
  peels_at e [] p i l = absurd (not-suc-le-zero l)
  peels_at e (r ∷ rs) p zero l = p.0
  peels_at e (r ∷ rs) p (suc i) l = peels_at (without e r.disk) rs p.1 i (le_of_suc-le-suc l)

module _ (L : Layout) (c : ℕ → Bool) where
  -- Each repair is the next one at its step.
  pub peel_turn : (k : ℕ) (e : ℕ → Bool) (i : ℕ) → i < length (peel L c k e)
      → (next_disk L c (at_turn e (peel L c k e) i) < L.disks)
      × (get_or (peel L c k e) i (record { disk = 0; stripe = 0 })
      ≡ repair_of L (at_turn e (peel L c k e) i) (next_disk L c (at_turn e (peel L c k e) i)))
  unfolding after repair_of
  peel_turn =
      by-peel L c Turn (λ e i l. absurd (not-suc-le-zero l)) (λ k e n i l. absurd (not-suc-le-zero l))
      (λ k e w l up. elim [ zero ↦ (λ h. (l, refl)) | suc i ↦ (λ h. up i (le_of_suc-le-suc h)) ])
    where
      Turn : ℕ → (ℕ → Bool) → List Entry → Type 0
      Turn k e w =
          (i : ℕ) → i < length w
          → (next_disk L c (at_turn e w i) < L.disks)
          × (get_or w i (record { disk = 0; stripe = 0 }) ≡ repair_of L (at_turn e w i) (next_disk L c (at_turn e w i)))

  pub peel-disk : (k : ℕ) (e : ℕ → Bool) (i : ℕ) → i < length (peel L c k e)
      → (disk_of (peel L c k e) i ≡ next_disk L c (at_turn e (peel L c k e) i)) × (c (disk_of (peel L c k e) i) ≡ true)
  unfolding disk_of repair_of
  peel-disk k e i l =
      let (more, at) = peel_turn k e i l in
      let disk = ap (λ (r : Entry). r.disk) at in
      (disk, ap c disk ∙ next-chosen L c (at_turn e (peel L c k e) i) more)

  module _ (k : ℕ) (e : ℕ → Bool) (enough : count L.disks e ≤ k) (i : ℕ) (within : i ≤ length (peel L c k e)) where
    -- They go on as long as there is a next repair,
    peel-more : next_disk L c (at_turn e (peel L c k e) i) < L.disks → i < length (peel L c k e)
    peel-more l = ⊎_elim (λ q. absurd (ended q)) (λ h. h) (eq-or-lt_of_le within)
      where
        ended : i ≡ length (peel L c k e) → ⊥
        ended q =
            ended_none L c (after e (peel L c k e)) (peel-ends L c k e enough)
            (subst (λ (w : List Entry). next_disk L c (after e w) < L.disks)
            (ap (λ (j : ℕ). take j (peel L c k e)) q ∙ take-length (peel L c k e)) l)

    pub peel_goes : next_disk L c (at_turn e (peel L c k e) i) < L.disks
        → (i < length (peel L c k e))
        × (take (i + 1) (peel L c k e)
        ≡ take i (peel L c k e) ++ (repair_of L (at_turn e (peel L c k e) i) (next_disk L c (at_turn e (peel L c k e) i)) ∷ []))
    peel_goes l =
        let h : i < length (peel L c k e) = peel-more l in (
          h,
          ap (λ (j : ℕ). take j (peel L c k e)) (add-one i) ∙ take-suc (peel L c k e) i (record { disk = 0; stripe = 0 }) h
              ∙ ap (λ (r : Entry). take i (peel L c k e) ++ (r ∷ [])) (peel_turn k e i h).1,
        )

    -- and ends where there is none.
    pub peel_stops : ¬ (next_disk L c (at_turn e (peel L c k e) i) < L.disks) → i ≡ length (peel L c k e)
    peel_stops n = ⊎_elim (λ q. q) (λ h. absurd (n (peel_turn k e i h).0)) (eq-or-lt_of_le within)

module _ (L : Layout) where
  -- A list of repairs names each disk that it takes away once, and no other.
  pub named_count : (e : ℕ → Bool) (w : List Entry) → Peels L e w
      → (d : ℕ) → count (length w) (λ i. eqb (disk_of w i) d) + bit (after e w d) ≡ bit (e d)
  unfolding after disk_of count
  named_count e [] p d = zero-add (bit (e d))
  named_count e (r ∷ rs) p d =
      let front = count-first (length rs) (λ i. eqb (disk_of (r ∷ rs) i) d) in
      let up = named_count (without e r.disk) rs p.1 d in
      let here = without-bit e r.disk d (allowed_is L e r.disk r.stripe p.0).erased in
      omega arith

  pub named_where : (e : ℕ → Bool) (w : List Entry) → Peels L e w → (d : ℕ) → e d ≡ true → after e w d ≡ false
      → (i : ℕ) × (i < length w) × (disk_of w i ≡ d)
  unfolding bit
  named_where e w p d h k =
      let all = named_count e w p d in
      let one : bit (e d) ≡ 1 = ap bit h in
      let none : bit (after e w d) ≡ 0 = ap bit k in
      let (i, l, q) = count_found (length w) (λ i. eqb (disk_of w i) d) (omega arith) in
      (i, l, eqb-true (disk_of w i) d q)

  pub named-repaired : (e : ℕ → Bool) (w : List Entry) → Peels L e w → (i : ℕ) → i < length w
      → (disk_of w i < L.disks) × (e (disk_of w i) ≡ true) × (after e w (disk_of w i) ≡ false)
  unfolding bit
  named-repaired e w p i l =
      let d : ℕ = disk_of w i in
      let a : Allowed L (at_turn e w i) d (stripe_of w i) = allowed_is L (at_turn e w i) d (stripe_of w i) (peels_at L e w p i l) in
      let own : e d ≡ true = after_sub e (take i w) d a.erased in
      let all = named_count e w p d in
      let one : bit (e d) ≡ 1 = ap bit own in
      let some = count-some (length w) (λ j. eqb (disk_of w j) d) i l (eq-eqb d d refl) in
      (a.disk, own, bit-zero (after e w d) (omega arith))

  -- The repairs of a loss that is not fatal are in plan's order.
  pub in_order_lem : Ordered L → (e : ℕ → Bool) → fatal L e ≡ false → InOrder L e (repairs L e)
  unfolding repairs repair_of disk_of stripe_of residual bit
  in_order_lem ordered e h =
      record {
        allowed_then = peels_at L e (repairs L e) (repairs_peels L e);
        lowest_then = λ i l d s a.
            let f : ℕ → Bool = at_turn e (repairs L e) i in
            let turn : get_or (repairs L e) i (record { disk = 0; stripe = 0 }) ≡ repair_of L f (next_disk L any_disk f) = (peel_turn L any_disk L.disks e i l).1 in
            let disk : disk_of (repairs L e) i ≡ next_disk L any_disk f = ap (λ (r : Entry). r.disk) turn in (
              subst (λ (n : ℕ). n ≤ d) (sym disk) (next-lowest L any_disk f d s refl a),
              λ q.
                  subst (λ (r : Entry). r.stripe ≤ s) (ap (repair_of L f) (q ∙ disk) ∙ sym turn) (next-stripe L f ordered d s a),
            );
        named = λ d l.
            let all = named_count e (repairs L e) (repairs_peels L e) d in
            let none : bit (after e (repairs L e) d) ≡ 0 = ap bit ((not-fatal L e).0 h d l) in
            omega arith;
      }
