-- What repairs do to an array: they restore the codeword that the survivors belong to, and tell whether there is one.
-- Assumes nothing.
use mathlib.Core.Path.{◌≡◌, refl, sym, ◌∙◌, ap, subst}
use mathlib.Core.Bool.{Bool, true, false, cond, not, ◌&&◌, true≢false}
use mathlib.Core.Logic.{◌↔◌}
use mathlib.Core.List.{List, [], ◌∷◌}
use Prim.Native.Nat.{ℕ, ◌+◌, ◌*◌, ◌%◌, ◌≤◌, ◌<◌, zero-le}
use native.Mathlib.Nat.{mod-lt}
use native.Mathlib.Omega.{arith}
use borrow.Author.Tests.{eq-eqb, ne_eqb, eqb-true, eqb-false, le-leb, lt-ltb}
use lib.Dec.{eqb, leb, ltb}
use lib.ListN.{length, get_or}
use Rattle.stripes.specs.Fold.{gate}
use Rattle.stripes.specs.System.{Layout, on, whole, byte, sum_over, stripe_sum, Codeword, Bytes, consistent}
use Rattle.stripes.specs.Erased.{without, Agree, Belongs, Ambiguous}
use Rattle.stripes.specs.Repair.{Entry, allowed, Peels, repairs, after, residual, fatal, sum_of_others, repaired, rebuilt, zeroed}
use Rattle.stripes.specs.declared.Stretch.{Stretch}
use Rattle.stripes.proofs.Xor.{equal_of_zero}
use Rattle.stripes.proofs.Fold.{and_both, by_cases, xsum_ext, xsum-byte, gate-small}
use Rattle.stripes.proofs.Bytes.{small-byte, byte-changed, whole_equal, changed-small, length-changed, covers, changed_is, changed_outside, whole-inside}
use Rattle.stripes.proofs.Sums.{sum_over_ext, others_and_own, consistent_iff}
use Rattle.stripes.proofs.Peel.{without_other, without-apart, after_sub, Allowed, allowed_is, repairs_peels, not-fatal}

-- ---- repairs

-- Repairs keep the array's length, and bytes below 256.
module _ (L : Layout) (x : Stretch) where
  pub length-repaired : (a : List ℕ) (r : Entry) → length (repaired L x a r) ≡ length a
  unfolding repaired
  length-repaired a r = length-changed x a _

  pub length-rebuilt : (a : List ℕ) (w : List Entry) → length (rebuilt L x a w) ≡ length a
  unfolding rebuilt
  length-rebuilt a [] = refl
  length-rebuilt a (r ∷ rs) = length-rebuilt (repaired L x a r) rs ∙ length-repaired a r

  others-small : (a : List ℕ) → Bytes a → (r : Entry) (p : ℕ) → sum_of_others L x a r p < 256
  unfolding sum_of_others sum_over
  others-small a small r p = xsum-byte L.disks (λ d l. gate-small _ (gate-small _ (small-byte a small x d p)))

  pub repaired-small : (a : List ℕ) (r : Entry) → Bytes a → Bytes (repaired L x a r)
  unfolding repaired
  repaired-small a r small =
      changed-small x a _
      (λ d p.
      by_cases (λ (t : Bool). cond t (sum_of_others L x a r p) (byte x a d p) < 256) (eqb d r.disk)
      (λ e. others-small a small r p) (λ e. small-byte a small x d p))
      small

  pub rebuilt-small : (a : List ℕ) (w : List Entry) → Bytes a → Bytes (rebuilt L x a w)
  unfolding rebuilt
  rebuilt-small a [] small = small
  rebuilt-small a (r ∷ rs) small = rebuilt-small (repaired L x a r) rs (repaired-small a r small)

-- A repair sets the block of its disk to the sum of the others, and leaves the other disks.
module _ (L : Layout) (x : Stretch) (inside : x.offset + x.width ≤ x.block)
    (a : List ℕ) (sized : length a ≡ L.disks * x.block) (r : Entry) where
  pub byte-repaired : (d p : ℕ) → d < L.disks → p < x.width
      → byte x (repaired L x a r) d p ≡ cond (eqb d r.disk) (sum_of_others L x a r p) (byte x a d p)
  unfolding repaired
  byte-repaired d p l h = byte-changed x inside L.disks a sized _ d p l h

  pub repaired-disk : r.disk < L.disks → (p : ℕ) → p < x.width → byte x (repaired L x a r) r.disk p ≡ sum_of_others L x a r p
  repaired-disk l p h = byte-repaired r.disk p l h ∙ (rw (eq-eqb r.disk r.disk refl))

  pub repaired-others : (d : ℕ) → d < L.disks → (d ≡ r.disk → ⊥) → (p : ℕ) → p < x.width
      → byte x (repaired L x a r) d p ≡ byte x a d p
  repaired-others d l other p h = byte-repaired d p l h ∙ (rw (ne_eqb d r.disk other))

-- ---- the sum of the others

-- In a codeword the sum of the others is the byte of the disk itself.
others_of_codeword : (L : Layout) (x : Stretch) (b : List ℕ) → Codeword L x b → (r : Entry) → r.disk < L.disks
    → on L r.disk r.stripe ≡ true → r.stripe < L.stripe_bound → (p : ℕ) → p < x.width
    → sum_of_others L x b r p ≡ byte x b r.disk p
unfolding sum_of_others stripe_sum
others_of_codeword L x b word r below there bound p h =
    equal_of_zero _ _
    (sym (others_and_own L (λ i. byte x b i p) r.disk r.stripe below there) ∙ word.sums r.stripe bound p h)

-- The sum of the others is the same where their bytes are.
pub others_same : (L : Layout) (x : Stretch) (a b : List ℕ) (r : Entry) (p : ℕ)
    → ((i : ℕ) → i < L.disks → on L i r.stripe ≡ true → (i ≡ r.disk → ⊥) → byte x a i p ≡ byte x b i p)
    → sum_of_others L x a r p ≡ sum_of_others L x b r p
unfolding sum_of_others sum_over gate
others_same L x a b r p same = xsum_ext L.disks (λ i l. go i l (on L i r.stripe) (eqb i r.disk) refl refl)
  where
    go : (i : ℕ) → i < L.disks → (u v : Bool) → on L i r.stripe ≡ u → eqb i r.disk ≡ v
        → gate u (gate (not v) (byte x a i p)) ≡ gate u (gate (not v) (byte x b i p))
    go i l true true o e = refl
    go i l true false o e = same i l o (eqb-false i r.disk e)
    go i l false v o e = refl

-- ---- restoration

-- The stripes of every disk lie below the bound on stripe numbers.
abbrev pub Bounded : Layout → Type 0
Bounded L = (d s : ℕ) → d < L.disks → on L d s ≡ true → s < L.stripe_bound

-- A disk that is not erased is not erased either without another.
without-none : (e : ℕ → Bool) (d i : ℕ) → e i ≡ false → without e d i ≡ false
unfolding without
without-none e d i h = ap (λ (b : Bool). b && not (eqb i d)) h

module _ (L : Layout) (x : Stretch) (inside : x.offset + x.width ≤ x.block) where
  -- Repairs leave the survivors.
  repaired-keeps : (e : ℕ → Bool) (a : List ℕ) → length a ≡ L.disks * x.block → (r : Entry) → allowed L e r.disk r.stripe ≡ true
      → Agree L x e a (repaired L x a r)
  repaired-keeps e a sized r ok d l k p h =
      let may : Allowed L e r.disk r.stripe = allowed_is L e r.disk r.stripe ok in
      sym (repaired-others L x inside a sized r d l (λ q. true≢false (sym may.erased ∙ ap e (sym q) ∙ k)) p h)

  pub rebuilt_keeps : (e : ℕ → Bool) (a : List ℕ) → length a ≡ L.disks * x.block → (w : List Entry) → Peels L e w
      → Agree L x e a (rebuilt L x a w)
  unfolding rebuilt
  rebuilt_keeps e a sized [] peels d l k p h = refl
  rebuilt_keeps e a sized (r ∷ rs) peels d l k p h =
      repaired-keeps e a sized r peels.0 d l k p h
      ∙ rebuilt_keeps (without e r.disk) (repaired L x a r) (length-repaired L x a r ∙ sized) rs peels.1 d l (without-none e r.disk d k) p h

  -- They leave the disks that are still erased after them, too.
  pub rebuilt-left : (e : ℕ → Bool) (a : List ℕ) → length a ≡ L.disks * x.block → (w : List Entry)
      → (d : ℕ) → d < L.disks → after e w d ≡ true → (p : ℕ) → p < x.width → byte x (rebuilt L x a w) d p ≡ byte x a d p
  unfolding rebuilt after
  rebuilt-left e a sized [] d l k p h = refl
  rebuilt-left e a sized (r ∷ rs) d l k p h =
      rebuilt-left (without e r.disk) (repaired L x a r) (length-repaired L x a r ∙ sized) rs d l k p h
      ∙ repaired-others L x inside a sized r d l (without-apart e r.disk d (after_sub (without e r.disk) rs d k)) p h

  -- Where two arrays agree on the survivors, a repair gives its disk the same bytes in both.
  pub agree_step : (e : ℕ → Bool) (a b : List ℕ) → length a ≡ L.disks * x.block → length b ≡ L.disks * x.block → (r : Entry)
      → allowed L e r.disk r.stripe ≡ true → Agree L x e a b → Agree L x (without e r.disk) (repaired L x a r) (repaired L x b r)
  agree_step e a b first second r ok same d l k p h = go (eqb d r.disk) refl
    where
      may : Allowed L e r.disk r.stripe
      may = allowed_is L e r.disk r.stripe ok

      -- The other disks of the stripe survive.
      survives : (i : ℕ) → i < L.disks → on L i r.stripe ≡ true → (i ≡ r.disk → ⊥) → e i ≡ false
      survives i w o q = by_cases (λ (t : Bool). t ≡ false) (e i) (λ y. sym o ∙ may.only i w q y) (λ y. refl)

      go : (t : Bool) → eqb d r.disk ≡ t → byte x (repaired L x a r) d p ≡ byte x (repaired L x b r) d p
      go true q =
          subst (λ (i : ℕ). byte x (repaired L x a r) i p ≡ byte x (repaired L x b r) i p) (sym (eqb-true d r.disk q))
          (repaired-disk L x inside a first r may.disk p h
          ∙ others_same L x a b r p (λ i w o n. same i w (survives i w o n) p h)
          ∙ sym (repaired-disk L x inside b second r may.disk p h))
      go false q =
          let other : d ≡ r.disk → ⊥ = eqb-false d r.disk q in
          repaired-others L x inside a first r d l other p h ∙ same d l (sym (without_other e r.disk d other) ∙ k) p h
          ∙ sym (repaired-others L x inside b second r d l other p h)

  -- A codeword has the bytes that a repair gives.
  codeword-kept : Bounded L → (b : List ℕ) → Codeword L x b → (r : Entry) → r.disk < L.disks → on L r.disk r.stripe ≡ true
      → (d : ℕ) → d < L.disks → (p : ℕ) → p < x.width → byte x (repaired L x b r) d p ≡ byte x b d p
  codeword-kept bounded b word r below there d l p h =
      by_cases (λ (t : Bool). byte x (repaired L x b r) d p ≡ byte x b d p) (eqb d r.disk)
      (λ q.
      subst (λ (i : ℕ). byte x (repaired L x b r) i p ≡ byte x b i p) (sym (eqb-true d r.disk q))
      (repaired-disk L x inside b word.sized r below p h
      ∙ others_of_codeword L x b word r below there (bounded r.disk r.stripe below there) p h))
      (λ q. repaired-others L x inside b word.sized r d l (eqb-false d r.disk q) p h)

  -- So repairs on survivors of a codeword give that codeword's bytes.
  module _ (bounded : Bounded L) (b : List ℕ) (word : Codeword L x b) where
    pub restore_step : (e : ℕ → Bool) (a : List ℕ) → length a ≡ L.disks * x.block → (r : Entry)
        → allowed L e r.disk r.stripe ≡ true → Agree L x e a b → Agree L x (without e r.disk) (repaired L x a r) b
    restore_step e a sized r ok same d l k p h =
        let may : Allowed L e r.disk r.stripe = allowed_is L e r.disk r.stripe ok in
        agree_step e a b sized word.sized r ok same d l k p h ∙ codeword-kept bounded b word r may.disk may.here d l p h

    pub restore : (e : ℕ → Bool) (a : List ℕ) → length a ≡ L.disks * x.block → (w : List Entry) → Peels L e w
        → Agree L x e a b → Agree L x (after e w) (rebuilt L x a w) b
    unfolding rebuilt after
    restore e a sized [] peels same = same
    restore e a sized (r ∷ rs) peels same =
        restore (without e r.disk) (repaired L x a r) (length-repaired L x a r ∙ sized) rs peels.1 (restore_step e a sized r peels.0 same)

-- ---- zeros on the erased disks

-- Where two arrays agree on the survivors, they are the same with zeros on the erased disks.
pub agree_gate : (L : Layout) (x : Stretch) (e : ℕ → Bool) (a b : List ℕ) → Agree L x e a b
    → (d : ℕ) → d < L.disks → (p : ℕ) → p < x.width → gate (not (e d)) (byte x a d p) ≡ gate (not (e d)) (byte x b d p)
unfolding gate
agree_gate L x e a b agree d l p h =
    by_cases (λ (t : Bool). gate (not t) (byte x a d p) ≡ gate (not t) (byte x b d p)) (e d) (λ k. refl) (λ k. agree d l k p h)

module _ (L : Layout) (x : Stretch) where
  -- Repairs leave what stands outside the stretch.
  pub rebuilt_outside : (a : List ℕ) (w : List Entry) (i : ℕ) → covers x (i % x.block) ≡ false → get_or (rebuilt L x a w) i 0 ≡ get_or a i 0
  unfolding rebuilt repaired
  rebuilt_outside a [] i k = refl
  rebuilt_outside a (r ∷ rs) i k = rebuilt_outside (repaired L x a r) rs i k ∙ changed_outside x a _ i k

  -- With zeros on the erased disks two arrays that agree on the survivors, and outside the stretch, are the same.
  module _ (inside : x.offset + x.width ≤ x.block) (e : ℕ → Bool) (a : List ℕ) (sized : length a ≡ L.disks * x.block) where
    zeroed-agree : (b : List ℕ) → length b ≡ length a → Agree L x e a b
        → ((i : ℕ) → covers x (i % x.block) ≡ false → get_or b i 0 ≡ get_or a i 0) → zeroed x b e ≡ zeroed x a e
    unfolding zeroed
    zeroed-agree b long agree kept =
        changed_is x inside L.disks a sized _ (zeroed x b e) (length-changed x b _ ∙ long)
        (λ d p l h. byte-changed x inside L.disks b (long ∙ sized) _ d p l h ∙ sym (agree_gate L x e a b agree d l p h))
        (λ i k. changed_outside x b _ i k ∙ kept i k)

    -- So nothing is left of repairs.
    pub zeroed-rebuilt : (w : List Entry) → Peels L e w → zeroed x (rebuilt L x a w) e ≡ zeroed x a e
    zeroed-rebuilt w peels =
        zeroed-agree (rebuilt L x a w) (length-rebuilt L x a w) (rebuilt_keeps L x inside e a sized w peels) (λ i k. rebuilt_outside a w i k)

-- Nothing lies outside the whole block.
pub zeroed-whole : (L : Layout) (B : ℕ) → 0 < B → (e : ℕ → Bool) (a b : List ℕ) → length a ≡ L.disks * (whole B).block → length b ≡ length a
    → Agree L (whole B) e a b → zeroed (whole B) b e ≡ zeroed (whole B) a e
unfolding covers whole
zeroed-whole L B some e a b sized long agree =
    zeroed-agree L (whole B) (whole-inside B) e a sized b long agree (λ i k. absurd (true≢false (sym (in_block i) ∙ k)))
  where
    in_block : (i : ℕ) → (leb 0 (i % B) && ltb (i % B) (0 + B)) ≡ true
    in_block i = let l : i % B < B = mod-lt i some in and_both (le-leb 0 (i % B) zero-le) (lt-ltb (i % B) (0 + B) (omega arith))

-- ---- whether the survivors belong to a codeword

-- Repairs, each of them allowed at its step, that leave no disk erased.
module _ (L : Layout) (bounded : Bounded L) (x : Stretch) (inside : x.offset + x.width ≤ x.block)
    (e : ℕ → Bool) (w : List Entry) (peels : Peels L e w) (none : (d : ℕ) → d < L.disks → after e w d ≡ false)
    (a : List ℕ) (sized : length a ≡ L.disks * x.block) where
  pub restored-bytes : (b : List ℕ) → Codeword L x b → Agree L x e a b
      → (d p : ℕ) → d < L.disks → p < x.width → byte x (rebuilt L x a w) d p ≡ byte x b d p
  restored-bytes b word same d p l h = restore L x inside bounded b word e a sized w peels same d l (none d l) p h

  -- Afterwards all sums are zero exactly if the survivors belong to a codeword.
  pub consistent_belongs : Bytes a → (consistent L x (rebuilt L x a w) ≡ true) ↔ Belongs L x e a
  unfolding stripe_sum
  consistent_belongs small = (
    λ ok. (
      rebuilt L x a w,
      record {
        sized = length-rebuilt L x a w ∙ sized;
        bytes = rebuilt-small L x a w small;
        sums = (consistent_iff L x (rebuilt L x a w)).0 ok;
      },
      rebuilt_keeps L x inside e a sized w peels,
    ),
    λ (b, word, same).
        (consistent_iff L x (rebuilt L x a w)).1
        (λ s l p h. sum_over_ext L (λ d k. restored-bytes b word same d p k h) s ∙ word.sums s l p h),
  )

-- Over the whole block such repairs make the codeword that the survivors belong to.
module _ (L : Layout) (bounded : Bounded L) (B : ℕ)
    (e : ℕ → Bool) (w : List Entry) (peels : Peels L e w) (none : (d : ℕ) → d < L.disks → after e w d ≡ false) where
  pub rebuilt_is : (a b : List ℕ) → length a ≡ L.disks * (whole B).block → Codeword L (whole B) b → Agree L (whole B) e a b
      → rebuilt L (whole B) a w ≡ b
  unfolding whole
  rebuilt_is a b sized word same =
      whole_equal L.disks B (rebuilt L (whole B) a w) b (length-rebuilt L (whole B) a w ∙ sized) word.sized
      (restored-bytes L bounded (whole B) (whole-inside B) e w peels none a sized b word same)

-- ---- plan's repairs of a loss that is not fatal
pub none_left : (L : Layout) (e : ℕ → Bool) → fatal L e ≡ false → (d : ℕ) → d < L.disks → after e (repairs L e) d ≡ false
unfolding residual
none_left L e = (not-fatal L e).0

module _ (L : Layout) (bounded : Bounded L) (e : ℕ → Bool) (survivable : fatal L e ≡ false) where
  pub judge : (x : Stretch) → x.offset + x.width ≤ x.block → (a : List ℕ) → length a ≡ L.disks * x.block → Bytes a
      → (consistent L x (rebuilt L x a (repairs L e)) ≡ true) ↔ Belongs L x e a
  judge x inside a sized small = consistent_belongs L bounded x inside e (repairs L e) (repairs_peels L e) (none_left L e survivable) a sized small

  pub restored_is : (B : ℕ) (a b : List ℕ) → length a ≡ L.disks * (whole B).block → Codeword L (whole B) b → Agree L (whole B) e a b
      → rebuilt L (whole B) a (repairs L e) ≡ b
  restored_is B = rebuilt_is L bounded B e (repairs L e) (repairs_peels L e) (none_left L e survivable)

  -- So no other codeword has the same survivors.
  pub unique : (B : ℕ) → Ambiguous L (whole B) e → ⊥
  unique B (a, b, first, second, same, different) =
      different (sym (restored_is B a a first.sized first (λ d l k p h. refl)) ∙ restored_is B a b first.sized second same)

-- ---- what the erased blocks hold counts for nothing

-- Repairs make two arrays that agree on the survivors agree on what they bring back,
pub agree_rebuilt : (L : Layout) (x : Stretch) → x.offset + x.width ≤ x.block → (e : ℕ → Bool) (a b : List ℕ)
    → length a ≡ L.disks * x.block → length b ≡ L.disks * x.block → (w : List Entry) → Peels L e w
    → Agree L x e a b → Agree L x (after e w) (rebuilt L x a w) (rebuilt L x b w)
unfolding rebuilt after
agree_rebuilt L x inside e a b first second [] peels same = same
agree_rebuilt L x inside e a b first second (r ∷ rs) peels same =
    agree_rebuilt L x inside (without e r.disk) (repaired L x a r) (repaired L x b r)
    (length-repaired L x a r ∙ first) (length-repaired L x b r ∙ second) rs peels.1 (agree_step L x inside e a b first second r peels.0 same)

-- and all repairs of a loss that is not fatal make them the same.
pub same-rebuilt : (L : Layout) (B : ℕ) (e : ℕ → Bool) → fatal L e ≡ false → (a b : List ℕ)
    → length a ≡ L.disks * (whole B).block → length b ≡ L.disks * (whole B).block → Agree L (whole B) e a b
    → rebuilt L (whole B) a (repairs L e) ≡ rebuilt L (whole B) b (repairs L e)
unfolding whole
same-rebuilt L B e fine a b first second same =
    whole_equal L.disks B _ _ (length-rebuilt L (whole B) a (repairs L e) ∙ first) (length-rebuilt L (whole B) b (repairs L e) ∙ second)
    (λ d p l h.
    agree_rebuilt L (whole B) (whole-inside B) e a b first second (repairs L e) (repairs_peels L e) same d l (none_left L e fine d l) p h)
