-- What follows from the laws of undetermined disks: how many there are, that repairs change nothing about it, and what becomes of an array
-- with the determined disks saved.
-- Assumes nothing.
use mathlib.Core.Path.{◌≡◌, refl, sym, ◌∙◌, ap}
use mathlib.Core.Bool.{Bool, true, false, cond, not, ◌&&◌, true≢false}
use mathlib.Core.Logic.{◌↔◌}
use mathlib.Core.List.{List}
use Prim.Native.Nat.{ℕ, ◌+◌, ◌*◌, ◌≤◌, ◌<◌}
use native.Mathlib.Omega.{arith}
use borrow.Author.Tests.{eqb-true, eqb-false, ne_eqb}
use lib.Dec.{eqb}
use lib.ListN.{length}
use Rattle.stripes.specs.Fold.{gate, bit, count}
use Rattle.stripes.specs.System.{Layout, TwoStripes, lower, whole, byte, Codeword}
use Rattle.stripes.specs.Erased.{without, Agree, Belongs, AmbiguousIn}
use Rattle.stripes.specs.Repair.{Entry, disk_of, Peels, repairs, after, fatal, rebuilt}
use Rattle.stripes.specs.Cycle.{Cycle}
use Rattle.stripes.specs.Smallest.{disks_of}
use Rattle.stripes.specs.Joined.{joined}
use Rattle.stripes.specs.Undetermined.{undetermined, determined, lost, survivor_sum, part_sum, parts_cancel, saved_byte, saved}
use Rattle.stripes.specs.declared.Stretch.{Stretch}
use Rattle.stripes.proofs.Fold.{xsum_ext, and_left, and_both, fails_with, by_cases, same_test, every_ext, count_ext, count_mono, count-without, count-some, count_found, count_split}
use Rattle.stripes.proofs.Bytes.{byte-changed, whole-inside, length-changed, changed_is, changed_outside, changed_self}
use Rattle.stripes.proofs.Sums.{sum_over_ext}
use Rattle.stripes.proofs.Peel.{without_sub, without_other, without-apart, after_sub, peel-count, repairs_peels}
use Rattle.stripes.proofs.Degree.{two_ordered}
use Rattle.stripes.proofs.Core.{paired_sum, ones_differ, differ_in, ambiguous_in}
use Rattle.stripes.proofs.Trace.{cycle_sub, cycle_paired, disk_of_lem}
use Rattle.stripes.proofs.Restore.{Bounded, agree_gate, length-rebuilt, rebuilt_outside, rebuilt-left, restore, none_left, restored_is, unique}
use Rattle.stripes.proofs.Undetermined.{saved_byte_lem, undetermined_iff}

-- ---- determined and undetermined disks
module _ (L : Layout) (e : ℕ → Bool) (d : ℕ) where
  pub undetermined-erased : undetermined L e d ≡ true → e d ≡ true
  unfolding undetermined
  undetermined-erased h = and_left (e d) _ h

  -- An erased disk is either determined or undetermined.
  pub determined-not : e d ≡ true → determined L e d ≡ not (undetermined L e d)
  unfolding determined
  determined-not h = rw h

  pub determined_is : e d ≡ true → undetermined L e d ≡ false → determined L e d ≡ true
  determined_is h k = determined-not h ∙ ap not k

  either-bit : bit (determined L e d) + bit (undetermined L e d) ≡ bit (e d)
  unfolding determined bit
  either-bit = go (e d) (undetermined L e d) undetermined-erased
    where
      go : (t u : Bool) → (u ≡ true → t ≡ true) → bit (t && not u) + bit u ≡ bit t
      go true true sub = refl
      go true false sub = refl
      go false true sub = absurd (true≢false (sym (sub refl)))
      go false false sub = refl

-- So the two kinds together are as many as the erased disks.
pub determined-count : (L : Layout) (e : ℕ → Bool) → count L.disks (determined L e) + lost L e ≡ count L.disks e
unfolding lost
determined-count L e = count_split L.disks e (determined L e) (undetermined L e) (λ d l. either-bit L e d)

-- ---- repairs change nothing about what is determined

-- Two codewords that agree on the survivors have the same bytes on the disks that repairs bring back.
agree_after : (L : Layout) → Bounded L → (x : Stretch) → x.offset + x.width ≤ x.block → (e : ℕ → Bool) (w : List Entry) → Peels L e w
    → (a b : List ℕ) → Codeword L x a → Codeword L x b → Agree L x e a b → Agree L x (after e w) a b
agree_after L bounded x inside e w peels a b first second same d l k p h =
    sym (restore L x inside bounded a first e a first.sized w peels (λ i m n q g. refl) d l k p h)
    ∙ restore L x inside bounded b second e a first.sized w peels same d l k p h

module _ (L : Layout) (two : TwoStripes L) where
  bounded : Bounded L
  bounded = (two_ordered L two).bounded

  -- Arrays of one byte a disk tell whether a disk is determined.
  in_bytes : (e : ℕ → Bool) (d : ℕ) → d < L.disks → (undetermined L e d ≡ true) ↔ AmbiguousIn L (whole 1) e d
  unfolding whole
  in_bytes e = undetermined_iff L two (whole 1) e (whole-inside 1) (omega arith)

  -- A loss is fatal exactly if some disk is undetermined.
  pub fatal-lost : (e : ℕ → Bool) → (fatal L e ≡ true) ↔ (0 < lost L e)
  unfolding whole lost
  fatal-lost e = (
    λ lossy.
        let (d, l, both) = ambiguous_in L two (whole 1) e lossy (omega arith) (whole-inside 1) in
        count-some L.disks (undetermined L e) d l ((in_bytes e d l).1 both),
    λ some.
        let (d, l, h) = count_found L.disks (undetermined L e) some in
        by_cases (λ (t : Bool). t ≡ true) (fatal L e) (λ lossy. refl)
        (λ fine. absurd (unique L bounded e fine 1 (differ_in L (whole 1) e d ((in_bytes e d l).0 h)))),
  )

  -- The disks of a cycle of erased disks are undetermined.
  pub cycle-undetermined : (e : ℕ → Bool) (w : List Entry) → Cycle L e w → (i : ℕ) → i < length w → undetermined L e (disk_of w i) ≡ true
  unfolding whole
  cycle-undetermined e w y i l =
      (in_bytes e (disk_of w i) (y.disk i l)).1
      (ones_differ L (whole 1) (whole-inside 1) (omega arith) (disks_of w) e (paired_sum L (disks_of w) (cycle_paired L e w y))
      (cycle_sub L e w y) (disk_of w i) (y.disk i l) (disk_of_lem w i l))

  -- So where it is not fatal, none is, and every erased disk is determined.
  pub none-lost : (e : ℕ → Bool) → fatal L e ≡ false → lost L e ≡ 0
  none-lost e fine = let some : ¬ (0 < lost L e) = λ h. true≢false (sym ((fatal-lost e).1 h) ∙ fine) in omega arith

  pub all_determined : (e : ℕ → Bool) → fatal L e ≡ false → count L.disks (determined L e) ≡ count L.disks e
  all_determined e fine = let none = none-lost e fine in let all = determined-count L e in omega arith

  module _ (e : ℕ → Bool) (w : List Entry) (peels : Peels L e w) where
    -- Repairs change nothing about which disks are undetermined,
    pub undetermined-after : (d : ℕ) → d < L.disks → undetermined L e d ≡ undetermined L (after e w) d
    undetermined-after d l =
        same_test (undetermined L e d) (undetermined L (after e w) d)
        (λ h.
        let (a, b, first, second, same, differ) = (in_bytes e d l).0 h in
        (in_bytes (after e w) d l).1
        (a, b, first, second, agree_after L bounded (whole 1) (whole-inside 1) e w peels a b first second same, differ))
        (λ h.
        let (a, b, first, second, same, differ) = (in_bytes (after e w) d l).0 h in
        (in_bytes e d l).1 (a, b, first, second, (λ i m k. same i m (fails_with (after e w i) (e i) (after_sub e w i) k)), differ))

    pub lost-after : lost L e ≡ lost L (after e w)
    unfolding lost
    lost-after = count_ext L.disks undetermined-after

    -- and every disk that they bring back is determined.
    pub reached-determined : (d : ℕ) → d < L.disks → e d ≡ true → after e w d ≡ false → determined L e d ≡ true
    reached-determined d l h gone =
        determined_is L e d h
        (fails_with (undetermined L e d) (after e w d) (λ k. undetermined-erased L (after e w) d (sym (undetermined-after d l) ∙ k)) gone)

    -- So each repair saves one of the determined disks, and the others are those of what is left.
    pub saved-count : count L.disks (determined L e) ≡ length w + count L.disks (determined L (after e w))
    saved-count =
        let before = determined-count L e in
        let left = determined-count L (after e w) in
        let same = lost-after in
        let all = peel-count L e w peels in
        omega arith

  -- ---- a disk is determined exactly if the count of lost disks stays the same where it is not erased
  module _ (e : ℕ → Bool) (d : ℕ) (l : d < L.disks) where
    -- Fewer erased disks leave no more of them open.
    undetermined-fewer : (i : ℕ) → i < L.disks → undetermined L (without e d) i ≡ true → undetermined L e i ≡ true
    undetermined-fewer i m h =
        let (a, b, first, second, same, differ) = (in_bytes (without e d) i m).0 h in
        (in_bytes e i m).1 (a, b, first, second, (λ j n k. same j n (fails_with (without e d j) (e j) (without_sub e d j) k)), differ)

    -- Codewords that agree on the survivors agree on a determined disk too.
    undetermined-without : undetermined L e d ≡ false → (i : ℕ) → i < L.disks → undetermined L e i ≡ undetermined L (without e d) i
    undetermined-without one i m =
        same_test (undetermined L e i) (undetermined L (without e d) i)
        (λ h.
        let (a, b, first, second, same, differ) = (in_bytes e i m).0 h in
        (in_bytes (without e d) i m).1 (
          a,
          b,
          first,
          second,
          (λ j n k p q.
              by_cases (λ (t : Bool). eqb j d ≡ t → byte (whole 1) a j p ≡ byte (whole 1) b j p) (eqb j d)
              (λ _ u. rw (eqb-true j d u) (agree-in a b first second same p q))
              (λ _ u. same j n (sym (without_other e d j (eqb-false j d u)) ∙ k) p q) refl),
          differ,
        ))
        (undetermined-fewer i m)
      where
        agree-in : (a b : List ℕ) → Codeword L (whole 1) a → Codeword L (whole 1) b → Agree L (whole 1) e a b → (p : ℕ) → p < (whole 1).width
            → byte (whole 1) a d p ≡ byte (whole 1) b d p
        agree-in a b first second same p q =
            by_cases (λ (t : Bool). eqb (byte (whole 1) a d p) (byte (whole 1) b d p) ≡ t → byte (whole 1) a d p ≡ byte (whole 1) b d p)
            (eqb (byte (whole 1) a d p) (byte (whole 1) b d p)) (λ _ u. eqb-true _ _ u)
            (λ _ u. absurd (true≢false (sym ((in_bytes e d l).1 (a, b, first, second, same, (p, q, eqb-false _ _ u))) ∙ one))) refl

    pub lost_fewer : lost L (without e d) ≤ lost L e
    unfolding lost
    lost_fewer = count_mono L.disks undetermined-fewer

    pub lost_tells : (lost L (without e d) ≡ lost L e) ↔ (undetermined L e d ≡ false)
    unfolding lost
    lost_tells = (
      λ same. by_cases (λ (t : Bool). t ≡ false) (undetermined L e d)
          (λ h.
          let less = count_mono L.disks {t = undetermined L (without e d)} {u = λ i. undetermined L e i && not (eqb i d)} (λ i m k. and_both (undetermined-fewer i m k) (ap not (ne_eqb i d (without-apart e d i (undetermined-erased L (without e d) i k))))) in
          let one = count-without L.disks (undetermined L e) d l h in
          absurd (omega arith))
          (λ h. refl),
      λ one. sym (count_ext L.disks (undetermined-without one)),
    )

-- ---- the array with the determined disks saved

-- The sums over the parts depend on the survivors alone, and so does whether they cancel, and the byte of a determined disk.
module _ (L : Layout) (x : Stretch) (e : ℕ → Bool) (a b : List ℕ) (same : Agree L x e a b) where
  pub part_sum-same : (c : ℕ → Bool) (p t : ℕ) → p < x.width → part_sum L x e c a p t ≡ part_sum L x e c b p t
  unfolding part_sum survivor_sum
  part_sum-same c p t h =
      xsum_ext L.stripe_bound (λ s k. ap (gate (joined L c s t)) (sum_over_ext L (λ i l. agree_gate L x e a b same i l p h) s))

  pub parts_cancel-same : parts_cancel L x e a ≡ parts_cancel L x e b
  unfolding parts_cancel
  parts_cancel-same =
      every_ext L.stripe_bound (λ t l. every_ext x.width (λ p h. ap (λ (v : ℕ). eqb v 0) (part_sum-same e p t h)))

  pub saved_byte-same : (d p : ℕ) → p < x.width → saved_byte L x e a d p ≡ saved_byte L x e b d p
  unfolding saved_byte
  saved_byte-same d p h = part_sum-same (without e d) p (lower L d) h

pub length-saved : (L : Layout) (x : Stretch) (a : List ℕ) (e : ℕ → Bool) → length (saved L x a e) ≡ length a
unfolding saved
length-saved L x a e = length-changed x a _

module _ (L : Layout) (x : Stretch) (inside : x.offset + x.width ≤ x.block) where
  -- Where no disk is erased, nothing is changed.
  saved-none : (e : ℕ → Bool) → ((d : ℕ) → d < L.disks → e d ≡ false) → (a : List ℕ) → length a ≡ L.disks * x.block
      → a ≡ saved L x a e
  unfolding saved determined
  saved-none e none a sized = changed_self x inside L.disks a sized _ (λ d p l h. rw (none d l))

  module _ (two : TwoStripes L) where
    -- It has the codeword's bytes but for the undetermined disks, which stay.
    pub saved_is : (e : ℕ → Bool) (a b : List ℕ) → length a ≡ L.disks * x.block → Codeword L x b → Agree L x e a b
        → (d p : ℕ) → d < L.disks → p < x.width
        → byte x (saved L x a e) d p ≡ cond (undetermined L e d) (byte x a d p) (byte x b d p)
    unfolding saved determined
    saved_is e a b sized word same d p l h =
        byte-changed x inside L.disks a sized _ d p l h ∙ go (e d) (undetermined L e d) refl refl
      where
        go : (t u : Bool) → e d ≡ t → undetermined L e d ≡ u
            → cond (t && not u) (saved_byte L x e a d p) (byte x a d p) ≡ cond u (byte x a d p) (byte x b d p)
        go true true i j = refl
        go false true i j = refl
        go true false i j = saved_byte_lem L two x e a b word same d l (determined_is L e d i j) p h
        go false false i j = same d l i p h

    -- It is the same after repairs, so these can be made first.
    pub saved_after : (e : ℕ → Bool) (w : List Entry) → Peels L e w → (a : List ℕ) → length a ≡ L.disks * x.block → Belongs L x e a
        → saved L x (rebuilt L x a w) (after e w) ≡ saved L x a e
    unfolding saved
    saved_after e w peels a sized (b, word, same) =
        changed_is x inside L.disks a sized _ (saved L x c (after e w)) (length-saved L x c (after e w) ∙ length-rebuilt L x a w)
        (λ d p l h.
        saved_is (after e w) c b long word (restore L x inside (two_ordered L two).bounded b word e a sized w peels same) d p l h
        ∙ kept d p l h (undetermined L (after e w) d) refl
        ∙ ap (λ (u : Bool). cond u (byte x a d p) (byte x b d p)) (sym (undetermined-after L two e w peels d l))
        ∙ sym (saved_is e a b sized word same d p l h)
        ∙ byte-changed x inside L.disks a sized _ d p l h)
        (λ i k. changed_outside x c _ i k ∙ rebuilt_outside L x a w i k)
      where
        c : List ℕ
        c = rebuilt L x a w

        long : length c ≡ L.disks * x.block
        long = length-rebuilt L x a w ∙ sized

        -- Repairs leave the undetermined disks.
        kept : (d p : ℕ) → d < L.disks → p < x.width → (u : Bool) → undetermined L (after e w) d ≡ u
            → cond u (byte x c d p) (byte x b d p) ≡ cond u (byte x a d p) (byte x b d p)
        kept d p l h true k = rebuilt-left L x inside e a sized w d l (undetermined-erased L (after e w) d k) p h
        kept d p l h false k = refl

    -- Where the loss is not fatal, it is what plan's repairs make of the array,
    pub saved-repairs : (e : ℕ → Bool) → fatal L e ≡ false → (a : List ℕ) → length a ≡ L.disks * x.block → Belongs L x e a
        → saved L x a e ≡ rebuilt L x a (repairs L e)
    saved-repairs e fine a sized belongs =
        sym (saved-none (after e (repairs L e)) (none_left L e fine) (rebuilt L x a (repairs L e)) (length-rebuilt L x a (repairs L e) ∙ sized)
        ∙ saved_after e (repairs L e) (repairs_peels L e) a sized belongs)

-- and over the whole block the codeword that the survivors belong to.
pub saved-whole : (L : Layout) → TwoStripes L → (e : ℕ → Bool) → fatal L e ≡ false → (B : ℕ) (a b : List ℕ)
    → length a ≡ L.disks * (whole B).block → Codeword L (whole B) b → Agree L (whole B) e a b → saved L (whole B) a e ≡ b
saved-whole L two e fine B a b sized word same =
    saved-repairs L (whole B) (whole-inside B) two e fine a sized (b, word, same)
    ∙ restored_is L (two_ordered L two).bounded e fine B a b sized word same
