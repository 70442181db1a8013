-- What sealing does to each byte, and what follows from that: the lemmas behind the laws of seal.
-- Assumes nothing.
use mathlib.Core.Path.{◌≡◌, sym, ◌∙◌, ap, ap₂, subst}
use mathlib.Core.Bool.{Bool, true, false, cond}
use mathlib.Core.List.{List}
use Prim.Native.Nat.{ℕ, ◌/◌, ◌%◌, ◌≤◌, ◌<◌, suc-le-suc}
use native.Mathlib.Nat.{le_refl, le_of_lt}
use borrow.Author.Tests.{lt-ltb, le-ltb}
use lib.Dec.{ltb}
use lib.ListN.{length, get_or}
use Rattle.stripes.specs.Fold.{xsum}
use Rattle.stripes.specs.System.{whole, byte}
use Rattle.model.specs.Grid.{rows, columns, across, disk_at, is_data, array_bytes, disks}
use Rattle.model.specs.Equations.{cell, row_data, column_data, Equations}
use Rattle.model.specs.Array.{encoded_byte, encoded, seal_status, seal_array}
use Rattle.model.specs.declared.Size.{Size}
use Rattle.stripes.proofs.Fold.{below_suc, xsum_ext, xsum_swap, xsum-byte}
use Rattle.stripes.proofs.Bytes.{byte-whole, small-byte}
use Rattle.model.proofs.Refusal.{given-accepted, ArrayFits, array-fits}
use Rattle.model.proofs.Grid.{column-inside, row_of, column_of_lem, disk_is, disk-below, row_within, column-within, data_at, data_row, data_column, array-length, array_is, array_all, byte-array_of}

-- A seal that is not refused has passed its tests, and makes the sealed array.
pub seal_fits : (z : Size) (B : ℕ) (a : List ℕ) → seal_status z B a ≡ 0 → ArrayFits z B (length a)
unfolding seal_status
seal_fits z B a ok = array-fits z B (length a) ok

pub seal_is : (z : Size) (B : ℕ) (a : List ℕ) → seal_status z B a ≡ 0 → seal_array z B a ≡ encoded z B a
unfolding seal_array
seal_is z B a ok = given-accepted (seal_status z B a) _ _ ok

-- Array b has the bytes that sealing a gives; it has the data of a.
abbrev pub Has : Size → ℕ → (a b : List ℕ) → Type 0
Has z B a b = (r c : ℕ) → r ≤ rows z → c ≤ columns z → (p : ℕ) → p < B → cell z (whole B) b p r c ≡ encoded_byte z B a r c p

abbrev pub Same : Size → ℕ → (a b : List ℕ) → Type 0
Same z B a b = (r c : ℕ) → r < rows z → c < columns z → (p : ℕ) → p < B → cell z (whole B) b p r c ≡ cell z (whole B) a p r c

-- Where the data are the same, so are their sums.
module _ (z : Size) (B : ℕ) (a b : List ℕ) (same : Same z B a b) where
  pub same_row : (r : ℕ) → r < rows z → (p : ℕ) → p < B → row_data z (whole B) b p r ≡ row_data z (whole B) a p r
  unfolding row_data
  same_row r l p h = xsum_ext (columns z) (λ c k. same r c l k p h)

  pub same-column : (c : ℕ) → c < columns z → (p : ℕ) → p < B → column_data z (whole B) b p c ≡ column_data z (whole B) a p c
  unfolding column_data
  same-column c k p h = xsum_ext (rows z) (λ r l. same r c l k p h)

module _ (z : Size) (B : ℕ) (a : List ℕ) where
  -- The byte that sealing gives a data disk, P of a row, Q of a column, and S.
  byte-data : (r c p : ℕ) → r < rows z → c < columns z → encoded_byte z B a r c p ≡ cell z (whole B) a p r c
  unfolding encoded_byte cell
  byte-data r c p l k = rw (lt-ltb r (rows z) l, lt-ltb c (columns z) k)

  byte-P : (r p : ℕ) → r < rows z → encoded_byte z B a r (columns z) p ≡ row_data z (whole B) a p r
  unfolding encoded_byte
  byte-P r p l = rw (lt-ltb r (rows z) l, le-ltb (columns z) (columns z) (le_refl (columns z)))

  byte-Q : (c p : ℕ) → c < columns z → encoded_byte z B a (rows z) c p ≡ column_data z (whole B) a p c
  unfolding encoded_byte
  byte-Q c p k = rw (lt-ltb c (columns z) k, le-ltb (rows z) (rows z) (le_refl (rows z)))

  byte-S : (p : ℕ) → encoded_byte z B a (rows z) (columns z) p ≡ xsum (rows z) (row_data z (whole B) a p)
  unfolding encoded_byte
  byte-S p = rw (le-ltb (columns z) (columns z) (le_refl (columns z)), le-ltb (rows z) (rows z) (le_refl (rows z)))

  -- The sealed array has these bytes.
  has-encoded : Has z B a (encoded z B a)
  unfolding cell encoded
  has-encoded r c l k p h =
      let w : c < across z = column-inside z c k in
      byte-array_of z B _ (disk_at z r c) p (disk-below z r c l k) h ∙ ap₂ (λ (i j : ℕ). encoded_byte z B a i j p) (row_of z r c w) (column_of_lem z r c w)

  module _ (b : List ℕ) where
    -- What has these bytes has the data and keeps the equations.
    data-of-bytes : Has z B a b → Same z B a b
    data-of-bytes has r c l k p h = has r c (le_of_lt l) (le_of_lt k) p h ∙ byte-data r c p l k

    equations-of-bytes : Has z B a b → Equations z (whole B) b
    unfolding whole row_data column_data
    equations-of-bytes has =
        let same : Same z B a b = data-of-bytes has in
        let parity : (p : ℕ) → p < B → (r : ℕ) → r < rows z → cell z (whole B) b p r (columns z) ≡ row_data z (whole B) a p r =
        λ p h r l. has r (columns z) (le_of_lt l) (le_refl (columns z)) p h ∙ byte-P r p l in
        let corner : (p : ℕ) → p < B → cell z (whole B) b p (rows z) (columns z) ≡ xsum (rows z) (row_data z (whole B) a p) =
        λ p h. has (rows z) (columns z) (le_refl (rows z)) (le_refl (columns z)) p h ∙ byte-S p in
        let column : (p : ℕ) → p < B → (c : ℕ) → c < columns z → cell z (whole B) b p (rows z) c ≡ column_data z (whole B) a p c =
        λ p h c k. has (rows z) c (le_refl (rows z)) (le_of_lt k) p h ∙ byte-Q c p k in
        record {
          row_parity = λ p h r l. parity p h r l ∙ sym (same_row z B a b same r l p h);
          column_parity = λ p h c k. column p h c k ∙ sym (same-column z B a b same c k p h);
          superparity_of_rows = λ p h. corner p h ∙ sym (xsum_ext (rows z) (parity p h));
          superparity_of_columns =
              λ p h. corner p h ∙ xsum_swap (rows z) (columns z) (cell z (whole B) a p) ∙ sym (xsum_ext (columns z) (column p h));
        }

    -- An array of the right length that has these bytes, kind by kind of disk, is the sealed array.
    module _ (long : length b ≡ array_bytes z B) (same : Same z B a b) where
      pub encoded_is : ((p : ℕ) → p < B → (r : ℕ) → r < rows z → cell z (whole B) b p r (columns z) ≡ row_data z (whole B) a p r)
          → ((p : ℕ) → p < B → (c : ℕ) → c < columns z → cell z (whole B) b p (rows z) c ≡ column_data z (whole B) a p c)
          → ((p : ℕ) → p < B → cell z (whole B) b p (rows z) (columns z) ≡ xsum (rows z) (row_data z (whole B) a p)) → b ≡ encoded z B a
      unfolding encoded cell
      encoded_is P Q S =
          array_is z B _ b long (λ d p l h.
          let Good : ℕ → ℕ → Type 0 = λ r c. cell z (whole B) b p r c ≡ encoded_byte z B a r c p in
          sym (byte-whole B b d p) ∙ ap (λ (k : ℕ). byte (whole B) b k p) (disk_is z d)
          ∙ below_suc (λ r. Good r (d % across z)) (rows z)
          (λ r w. below_suc (Good r) (columns z) (λ c v. same r c w v p h ∙ sym (byte-data r c p w v)) (P p h r w ∙ sym (byte-P r p w)) _ (suc-le-suc (column-within z d)))
          (below_suc (Good (rows z)) (columns z) (λ c v. Q p h c v ∙ sym (byte-Q c p v)) (S p h ∙ sym (byte-S p)) _ (suc-le-suc (column-within z d)))
          (d / across z) (suc-le-suc (row_within z d l)))

      -- So is one that has the data and keeps the equations.
      pub encoded_exact : Equations z (whole B) b → b ≡ encoded z B a
      unfolding whole
      encoded_exact e =
          encoded_is (λ p h r w. e.row_parity p h r w ∙ same_row z B a b same r w p h) (λ p h c v. e.column_parity p h c v ∙ same-column z B a b same c v p h)
          (λ p h. e.superparity_of_rows p h ∙ xsum_ext (rows z) (λ r w. e.row_parity p h r w ∙ same_row z B a b same r w p h))

  -- Where the equations hold at a place, sealing keeps every byte there.
  pub encoded-kept : (p : ℕ) → p < B
      → ((r : ℕ) → r < rows z → cell z (whole B) a p r (columns z) ≡ row_data z (whole B) a p r)
      → ((c : ℕ) → c < columns z → cell z (whole B) a p (rows z) c ≡ column_data z (whole B) a p c)
      → cell z (whole B) a p (rows z) (columns z) ≡ xsum (rows z) (row_data z (whole B) a p)
      → (d : ℕ) → d < disks z → byte (whole B) a d p ≡ byte (whole B) (encoded z B a) d p
  unfolding encoded cell
  encoded-kept p h P Q S d l =
      let Good : ℕ → ℕ → Type 0 = λ r c. cell z (whole B) a p r c ≡ encoded_byte z B a r c p in
      ap (λ (k : ℕ). byte (whole B) a k p) (disk_is z d)
      ∙ below_suc (λ r. Good r (d % across z)) (rows z)
      (λ r w. below_suc (Good r) (columns z) (λ c v. sym (byte-data r c p w v)) (P r w ∙ sym (byte-P r p w)) _ (suc-le-suc (column-within z d)))
      (below_suc (Good (rows z)) (columns z) (λ c v. Q c v ∙ sym (byte-Q c p v)) (S ∙ sym (byte-S p)) _ (suc-le-suc (column-within z d)))
      (d / across z) (suc-le-suc (row_within z d l))
      ∙ sym (byte-array_of z B _ d p l h)

  -- A sealed array has the right length, the data and the equations.
  pub encoded-length : length (encoded z B a) ≡ array_bytes z B
  unfolding encoded
  encoded-length = array-length z B _

  pub encoded-same : Same z B a (encoded z B a)
  encoded-same = data-of-bytes (encoded z B a) has-encoded

  pub encoded-equations : Equations z (whole B) (encoded z B a)
  encoded-equations = equations-of-bytes (encoded z B a) has-encoded

  -- Where all bytes of an array are below 256, so are those of the sealed array.
  module _ (small : (i : ℕ) → i < length a → get_or a i 0 < 256) where
    small_row : (p r : ℕ) → row_data z (whole B) a p r < 256
    unfolding row_data cell
    small_row p r = xsum-byte (columns z) (λ c l. small-byte a small (whole B) (disk_at z r c) p)

    small-column : (p c : ℕ) → column_data z (whole B) a p c < 256
    unfolding column_data cell
    small-column p c = xsum-byte (rows z) (λ r l. small-byte a small (whole B) (disk_at z r c) p)

    small-encodedByte : (r c p : ℕ) → encoded_byte z B a r c p < 256
    unfolding encoded_byte
    small-encodedByte r c p =
        choose (ltb c (columns z)) (choose (ltb r (rows z)) (small-byte a small (whole B) (disk_at z r c) p) (small-column p c))
        (choose (ltb r (rows z)) (small_row p r) (xsum-byte (rows z) (λ i l. small_row p i)))
      where
        choose : (t : Bool) {u v : ℕ} → u < 256 → v < 256 → cond t u v < 256
        choose true h k = h
        choose false h k = k

    pub encoded-small : (i : ℕ) → i < length (encoded z B a) → get_or (encoded z B a) i 0 < 256
    unfolding encoded
    encoded-small = array_all z B _ (λ v. v < 256) (λ d p l h. small-encodedByte (d / across z) (d % across z) p)

-- The data are the same in every data row and column if and only if they are on every data disk.
module _ (z : Size) (B : ℕ) (a b : List ℕ) where
  pub same_of_data : ((d : ℕ) → is_data z d ≡ true → (p : ℕ) → p < B → byte (whole B) b d p ≡ byte (whole B) a d p) → Same z B a b
  unfolding cell
  same_of_data h r c l k p w = h (disk_at z r c) (data_at z r c l k) p w

  pub data_of_same : Same z B a b → (d : ℕ) → is_data z d ≡ true → (p : ℕ) → p < B → byte (whole B) b d p ≡ byte (whole B) a d p
  unfolding cell
  data_of_same same d e p w =
      subst (λ (k : ℕ). byte (whole B) b k p ≡ byte (whole B) a k p) (sym (disk_is z d))
      (same (d / across z) (d % across z) (data_row z d e) (data_column z d e) p w)
