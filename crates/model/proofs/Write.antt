-- What writing does to each byte and to each stripe's sum: the lemmas behind the laws of write.
-- Assumes nothing.
use mathlib.Core.Path.{◌≡◌, refl, sym, ◌∙◌, ap, ap₂, subst}
use mathlib.Core.Bool.{Bool, true, false, cond, ◌&&◌, ◌||◌, and-false}
use mathlib.Core.List.{List, [], ◌∷◌}
use Prim.Native.Nat.{ℕ, ◌+◌, ◌/◌, ◌%◌, ◌≤◌, ◌<◌}
use native.Mathlib.Nat.{le_refl, le_of_lt}
use native.Mathlib.Numerals.{add-one}
use native.Mathlib.Omega.{arith}
use borrow.Author.Tests.{eq-eqb, ne_eqb, eqb-true}
use lib.Dec.{eqb}
use lib.ListN.{length, get_or}
use Rattle.stripes.specs.Fold.{◌⊕◌, xsum, gate}
use Rattle.stripes.specs.System.{whole, byte, sum_over, stripe_sum}
use Rattle.model.specs.Grid.{rows, columns, across, layout_of, column_base, disks, disk_at, is_data, array_bytes}
use Rattle.model.specs.Equations.{cell, Equations}
use Rattle.model.specs.Refusal.{◌unless◌, refusal, array_tests}
use Rattle.model.specs.Array.{write_tests, is_parity_of, written_byte, written, replaced, write_status, write_array, encoded, seal_status}
use Rattle.model.specs.declared.Size.{Size}
use Rattle.stripes.proofs.Xor.{⊕_self, ⊕-zero, ⊕_cancel}
use Rattle.stripes.proofs.Fold.{xsum_ext, xsum-only}
use Rattle.stripes.proofs.Sums.{sum_over_ext, sum_over-⊕}
use Rattle.model.proofs.Grid.{row_over, column_over, empty_over, layout-disks, by_stripe, disk_is, disk-below, eqb-disk, data_row, data_column, data_below, array-length, byte-array_of, rows-below}
use Rattle.model.proofs.Equations.{equations_iff_sums}
use Rattle.model.proofs.Refusal.{given-accepted, passed, passes, fails, refused_first, ArrayFits, array_tests_lem, array_passed, array-accepted}
use Rattle.model.proofs.Seal.{Same, encoded_exact}

-- A write that is not refused has passed its tests, and makes the written array.
pub record WriteFits (z : Size) (B len d dataLen : ℕ) : Type 0 where
  pub array : ArrayFits z B len
  pub disk : is_data z d ≡ true
  pub long : dataLen ≡ B

pub write_fits : (z : Size) (B : ℕ) (a : List ℕ) (d : ℕ) (new : List ℕ) → write_status z B a d new ≡ 0 → WriteFits z B (length a) d (length new)
unfolding write_status write_tests
write_fits z B a d new e =
    let (array, e₈) = array_tests_lem z B (length a) (8 unless is_data z d ∷ 9 unless eqb (length new) B ∷ []) e in
    let (disk, e₉) = passed 8 (is_data z d) _ (omega arith) e₈ in
    let (long, done) = passed 9 (eqb (length new) B) [] (omega arith) e₉ in
    record { array = array; disk = disk; long = eqb-true (length new) B long }

pub write_is : (z : Size) (B : ℕ) (a : List ℕ) (d : ℕ) (new : List ℕ) → write_status z B a d new ≡ 0 → write_array z B a d new ≡ written z B a d new
unfolding write_array
write_is z B a d new ok = given-accepted (write_status z B a d new) _ _ ok

-- The status by the test that fails first.
module _ (z : Size) (B : ℕ) (a : List ℕ) (d : ℕ) (new : List ℕ) where
  pub status_first : (refusal (array_tests z B (length a)) ≡ 0 → ⊥) → write_status z B a d new ≡ refusal (array_tests z B (length a))
  unfolding write_status write_tests
  status_first h = refused_first (array_tests z B (length a)) _ h

  module _ (fits : ArrayFits z B (length a)) where
    pub status_disk : is_data z d ≡ false → write_status z B a d new ≡ 8
    unfolding write_status write_tests
    status_disk h = array_passed z B (length a) fits _ ∙ fails 8 _ _ h

    pub status_length : is_data z d ≡ true → (length new ≡ B → ⊥) → write_status z B a d new ≡ 9
    unfolding write_status write_tests
    status_length h k = array_passed z B (length a) fits _ ∙ passes 8 _ _ h ∙ fails 9 _ _ (ne_eqb (length new) B k)

    pub status_none : is_data z d ≡ true → length new ≡ B → write_status z B a d new ≡ 0
    unfolding write_status write_tests refusal
    status_none h k = array_passed z B (length a) fits _ ∙ simp (h, eq-eqb (length new) B k)

-- The sum up to n of what is the same at j and at n, and zero elsewhere.
two_cancel : (n j : ℕ) (g : Bool → ℕ) → j < n → g false ≡ 0 → xsum (n + 1) (λ i. g (eqb i j || eqb i n)) ≡ 0
unfolding xsum
two_cancel n j g l none =
    ap (λ (k : ℕ). xsum k (λ i. g (eqb i j || eqb i n))) (add-one n)
    ∙ ap₂ (λ (x y : ℕ). x ⊕ y)
    (xsum-only n j l (λ i w q. ap g (ap₂ (λ (x y : Bool). x || y) (ne_eqb i j q) (ne_eqb i n (omega arith))) ∙ none)
    ∙ ap (λ (b : Bool). g (b || eqb j n)) (eq-eqb j j refl))
    (ap₂ (λ (x y : Bool). g (x || y)) (ne_eqb n j (omega arith)) (eq-eqb n n refl))
    ∙ ⊕_self (g true)

-- One of two and one of two others.
distribute : (u v x y : Bool) → ((u && x) || ((u && y) || ((v && x) || (v && y)))) ≡ ((u || v) && (x || y))
distribute true v true y = refl
distribute true v false true = refl
distribute true true false false = refl
distribute true false false false = refl
distribute false true x y = refl
distribute false false x y = refl

-- The four disks that writing data disk d changes: they stand in d's row or the last, and in d's column or the last.
unfoldable pub touched : Size → (d e : ℕ) → Bool
touched z d e = eqb e d || is_parity_of z d e

module _ (z : Size) (d : ℕ) (isdata : is_data z d ≡ true) where
  parity-at : (r c : ℕ) → c ≤ columns z
      → is_parity_of z d (disk_at z r c) ≡ ((eqb r (d / across z) && eqb c (columns z)) || ((eqb r (rows z) && eqb c (d % across z)) || (eqb r (rows z) && eqb c (columns z))))
  unfolding is_parity_of
  parity-at r c k =
      let j : d % across z ≤ columns z = le_of_lt (data_column z d isdata) in
      let last : columns z ≤ columns z = le_refl (columns z) in
      let either : Bool → Bool → Bool = λ s t. s || t in
      ap₂ either (eqb-disk z r c (d / across z) (columns z) k last)
      (ap₂ either (eqb-disk z r c (rows z) (d % across z) k j) (eqb-disk z r c (rows z) (columns z) k last))

  touched-at : (r c : ℕ) → c ≤ columns z
      → touched z d (disk_at z r c) ≡ ((eqb r (d / across z) || eqb r (rows z)) && (eqb c (d % across z) || eqb c (columns z)))
  unfolding touched
  touched-at r c k =
      ap₂ (λ (s t : Bool). s || t)
      (ap (λ (e : ℕ). eqb (disk_at z r c) e) (disk_is z d) ∙ eqb-disk z r c _ _ k (le_of_lt (data_column z d isdata)))
      (parity-at r c k)
      ∙ distribute (eqb r (d / across z)) (eqb r (rows z)) (eqb c (d % across z)) (eqb c (columns z))

  -- On each stripe what they change cancels.
  cancels : rows z < column_base z → (v s : ℕ) → s < (layout_of z (column_base z)).stripe_bound → sum_over (layout_of z (column_base z)) (λ e. gate (touched z d e) v) s ≡ 0
  unfolding gate across
  cancels above v =
      by_stripe z (column_base z) (λ s. sum_over (layout_of z (column_base z)) (λ e. gate (touched z d e) v) s ≡ 0)
      (λ r l.
      row_over z (column_base z) above _ r l ∙ xsum_ext (across z) (λ c k. ap (λ (t : Bool). gate t v) (touched-at r c (omega arith)))
      ∙ two_cancel (columns z) (d % across z) (λ t. gate ((eqb r (d / across z) || eqb r (rows z)) && t) v) (data_column z d isdata)
      (ap (λ (t : Bool). gate t v) (and-false (eqb r (d / across z) || eqb r (rows z)))))
      (λ s l b. empty_over z (column_base z) above _ s l b)
      (λ c k.
      column_over z (column_base z) above _ c k ∙ xsum_ext (rows z + 1) (λ r l. ap (λ (t : Bool). gate t v) (touched-at r c k))
      ∙ two_cancel (rows z) (d / across z) (λ t. gate (t && (eqb c (d % across z) || eqb c (columns z))) v) (data_row z d isdata) refl)

  -- A data disk is none of P, Q and S.
  pub parity_no_data : (r c : ℕ) → r < rows z → c < columns z → is_parity_of z d (disk_at z r c) ≡ false
  parity_no_data r c l k =
      parity-at r c (le_of_lt k)
      ∙ (rw (ne_eqb c (columns z) (omega arith), ne_eqb r (rows z) (omega arith)) (ap (λ (t : Bool). t || false) (and-false (eqb r (d / across z)))))

module _ (z : Size) (B : ℕ) (a : List ℕ) (d : ℕ) (new : List ℕ) where
  -- Writing adds the difference of the blocks on the four disks.
  pub written_byte_is : (e p : ℕ) → written_byte z B a d new e p ≡ byte (whole B) a e p ⊕ gate (touched z d e) (byte (whole B) a d p ⊕ get_or new p 0)
  unfolding written_byte touched gate
  written_byte_is e p = go (eqb e d) (is_parity_of z d e) refl
    where
      go : (s t : Bool) → eqb e d ≡ s
          → cond s (get_or new p 0) (cond t (byte (whole B) a e p ⊕ (byte (whole B) a d p ⊕ get_or new p 0)) (byte (whole B) a e p))
          ≡ byte (whole B) a e p ⊕ gate (s || t) (byte (whole B) a d p ⊕ get_or new p 0)
      go true t h =
          sym (⊕_cancel (byte (whole B) a d p) (get_or new p 0))
          ∙ ap (λ (k : ℕ). byte (whole B) a k p ⊕ (byte (whole B) a d p ⊕ get_or new p 0)) (sym (eqb-true e d h))
      go false true h = refl
      go false false h = sym (⊕-zero (byte (whole B) a e p))

  -- The written array has the right length.
  pub written-length : length (written z B a d new) ≡ array_bytes z B
  unfolding written
  written-length = array-length z B _

  -- Every stripe's sum is kept.
  pub written_sum : WriteFits z B (length a) d (length new) → (s : ℕ) → s < (layout_of z (column_base z)).stripe_bound → (p : ℕ) → p < B
      → stripe_sum (layout_of z (column_base z)) (whole B) (written z B a d new) s p ≡ stripe_sum (layout_of z (column_base z)) (whole B) a s p
  unfolding stripe_sum written
  written_sum fits s l p h =
      sum_over_ext (layout_of z (column_base z)) (λ e k. byte-array_of z B _ e p (subst (λ (n : ℕ). e < n) (layout-disks z (column_base z)) k) h ∙ written_byte_is e p) s
      ∙ sum_over-⊕ (layout_of z (column_base z)) _ _ s
      ∙ ap (λ (x : ℕ). sum_over (layout_of z (column_base z)) (λ e. byte (whole B) a e p) s ⊕ x) (cancels z d fits.disk (rows-below z fits.array.size) _ s l)
      ∙ ⊕-zero _

  -- Its data are those of the array with the block replaced, so that of a sealed array it is that one sealed.
  written_same : is_data z d ≡ true → Same z B (replaced z B a d new) (written z B a d new)
  unfolding cell replaced written written_byte
  written_same isdata r c l k p h =
      let below : disk_at z r c < disks z = disk-below z r c (le_of_lt l) (le_of_lt k) in
      byte-array_of z B _ (disk_at z r c) p below h ∙ (rw (parity_no_data z d isdata r c l k)) ∙ sym (byte-array_of z B _ (disk_at z r c) p below h)

  -- The disk holds the new block, and a disk that is none of its parities keeps its block.
  pub written-block : WriteFits z B (length a) d (length new) → (p : ℕ) → p < B → byte (whole B) (written z B a d new) d p ≡ get_or new p 0
  unfolding written written_byte
  written-block fits p h = byte-array_of z B _ d p (data_below z d fits.disk) h ∙ simp (eq-eqb d d refl)

  pub written-others : (e : ℕ) → e < disks z → (e ≡ d → ⊥) → is_parity_of z d e ≡ false → (p : ℕ) → p < B
      → byte (whole B) (written z B a d new) e p ≡ byte (whole B) a e p
  unfolding written written_byte
  written-others e l other none p h = byte-array_of z B _ e p l h ∙ simp (ne_eqb e d other, none)

  pub written-sealed : WriteFits z B (length a) d (length new) → Equations z (whole B) a → written z B a d new ≡ encoded z B (replaced z B a d new)
  unfolding whole
  written-sealed fits e =
      let above = rows-below z fits.array.size in
      encoded_exact z B (replaced z B a d new) (written z B a d new) written-length (written_same fits.disk)
      ((equations_iff_sums z (column_base z) above (whole B) (written z B a d new)).1 (λ s l p h.
      written_sum fits s l p h ∙ (equations_iff_sums z (column_base z) above (whole B) a).0 e s l p h))

  -- Where the write is not refused, sealing the array with the block replaced is not refused either.
  pub replaced_status : write_status z B a d new ≡ 0 → seal_status z B (replaced z B a d new) ≡ 0
  unfolding seal_status replaced
  replaced_status ok =
      let fits : ArrayFits z B (length a) = (write_fits z B a d new ok).array in
      array-accepted z B _ (record { size = fits.size; block = fits.block; long = array-length z B _ })
