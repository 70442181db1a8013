-- Sheets of any format: what stands where, one record more, and paper 01's words: bytes are the sheet of a list that fits exactly
-- if these hold of them.
-- Assumes nothing.
use mathlib.Core.Path.{◌≡◌, refl, sym, ◌∙◌, ap, ap₂, subst}
use mathlib.Core.Logic.{◌↔◌, ⊎_elim}
use mathlib.Core.List.{List, [], ◌∷◌, ◌++◌, append_assoc, append-nil}
use Prim.Native.Nat.{ℕ, zero, suc, ◌+◌, ◌*◌, ◌-◌, ◌/◌, ◌^◌, ◌≤◌, ◌<◌}
use native.Mathlib.Nat.{add-zero, mul-suc, mul-le-mul_left, eq-or-lt_of_le, not-suc-le-zero}
use native.Mathlib.Omega.{arith}
use lib.ListN.{length, get_or, take, drop, replicate, length-append, length-replicate, take-append-drop, get_or-append, get_or-eq_default, replicate-append-replicate}
use lib.Seq.{ext_get_or, get_or-drop, get_or_at, drop_at, take-append_seam, drop-append-add, drop-cons, length-take-le, drop-length, sets, sets-eq}
use Rattle.stripes.specs.Fold.{tabulate}
use Rattle.stripes.specs.System.{Bytes}
use Rattle.stripes.specs.Repair.{Entry, disk_of, stripe_of}
use Rattle.stripes.proofs.Fold.{lt_or_le, length-tabulate, get_d_tabulate, list_is}
use Rattle.stripes.proofs.Bytes.{by_block}
use Rattle.model.specs.Sheet.{Format, record_bytes, record_at, sheet_bytes, number_bytes, number_at, chain_bytes, sheet_of, SheetBytes}

-- ---- numbers in bytes
number-length : (n v : ℕ) → length (number_bytes n v) ≡ n
unfolding number_bytes
number-length zero v = refl
number-length (suc n) v = ap suc (number-length n (v / 256))

-- Where the bytes of a number stand, the number is read.
number_read : (n v : ℕ) (s : List ℕ) (i : ℕ) → v < 256 ^ n
    → ((k j : ℕ) → k < n → j ≡ i + k → get_or s j 0 ≡ get_or (number_bytes n v) k 0) → number_at n s i ≡ v
unfolding number_bytes number_at
number_read zero v s i small same = omega arith
number_read (suc n) v s i small same =
    let low = same 0 i (omega arith) (omega arith) in
    let high = number_read n (v / 256) s (suc i) (omega arith) (λ k j h e. same (suc k) j (omega arith) (omega arith)) in
    omega arith

-- Every number of a list is a byte, the zeros behind it among them.
pub record Small (s : List ℕ) : Type 0 where
  pub at : (i : ℕ) → get_or s i 0 < 256

small_cons : {x : ℕ} {s : List ℕ} → x < 256 → Small s → Small (x ∷ s)
small_cons h p = record { at = elim [ zero ↦ h | suc i ↦ p.at i ] }

small-number : (n v : ℕ) {s : List ℕ} → Small s → Small (number_bytes n v ++ s)
unfolding number_bytes
small-number zero v p = p
small-number (suc n) v p = small_cons (omega arith) (small-number n (v / 256) p)

pub small : (s : List ℕ) → Bytes s → Small s
small s p = record { at = λ i. ⊎_elim (p i) (λ h. let e = get_or-eq_default s 0 h in omega arith) (lt_or_le i (length s)) }

-- A number that n bytes hold.
pub number_small : (n : ℕ) {s : List ℕ} → Small s → (i : ℕ) → number_at n s i < 256 ^ n
unfolding number_at
number_small zero p i = omega arith
number_small (suc n) p i = let low = p.at i in let high = number_small n p (suc i) in omega arith

-- Equal bytes have equal numbers,
pub number_same : (n : ℕ) (s t : List ℕ) (i : ℕ) → ((k j : ℕ) → k < n → j ≡ i + k → get_or s j 0 ≡ get_or t j 0) → number_at n s i ≡ number_at n t i
unfolding number_at
number_same zero s t i same = refl
number_same (suc n) s t i same =
    ap₂ (λ (low high : ℕ). low + 256 * high) (same 0 i (omega arith) (omega arith))
    (number_same n s t (suc i) (λ k j h e. same (suc k) j (omega arith) (omega arith)))

-- and equal numbers have equal bytes.
number_bytes_lem : (n : ℕ) {s t : List ℕ} (i : ℕ) → Small s → Small t → number_at n s i ≡ number_at n t i
    → (k j : ℕ) → k < n → j ≡ i + k → get_or s j 0 ≡ get_or t j 0
unfolding number_at
number_bytes_lem zero i p q e k j h at = absurd (not-suc-le-zero h)
number_bytes_lem (suc n) {s} {t} i p q e zero j h at =
    let a = p.at i in
    let b = q.at i in
    let is : i ≡ j = omega arith in
    subst (λ (j : ℕ). get_or s j 0 ≡ get_or t j 0) is (omega arith)
number_bytes_lem (suc n) i p q e (suc k) j h at =
    let a = p.at i in let b = q.at i in number_bytes_lem n (suc i) p q (omega arith) k j (omega arith) (omega arith)

-- ---- lists filled up with zeros
abbrev zeros : ℕ → List ℕ
zeros m = replicate m 0

abbrev filled : ℕ → List ℕ → List ℕ
filled n p = p ++ zeros (n - length p)

-- Zeros behind a list make no difference.
zeros-behind : (s : List ℕ) (m i : ℕ) → get_or (s ++ zeros m) i 0 ≡ get_or s i 0
zeros-behind [] zero i = refl
zeros-behind [] (suc m) zero = refl
zeros-behind [] (suc m) (suc i) = zeros-behind [] m i
zeros-behind (x ∷ s) m zero = refl
zeros-behind (x ∷ s) m (suc i) = zeros-behind s m i

filled_at : (n : ℕ) {l : List ℕ} (p : List ℕ) → l ≡ p ++ (0 ∷ []) → (i : ℕ) → get_or (filled n p) i 0 ≡ get_or l i 0
filled_at n p e i = zeros-behind p (n - length p) i ∙ sym (zeros-behind p 1 i) ∙ ap (λ (l : List ℕ). get_or l i 0) (sym e)

filled_is : (n : ℕ) {l : List ℕ} (p : List ℕ) → l ≡ p ++ (0 ∷ []) → length p ≤ n → tabulate n (λ i. get_or l i 0) ≡ filled n p
filled_is n p e h =
    sym (list_is (filled n p) n _ (simp (length-append, length-replicate) (omega arith)) (λ i b. filled_at n p e i))

-- Writing v over the first of the zeros.
filled_more : (n : ℕ) (p v : List ℕ) → length (p ++ v) ≤ n → sets (filled n p) (length p) v ≡ filled n (p ++ v)
filled_more n p v h =
    let rest : List ℕ = zeros (n - length (p ++ v)) in
    let both = length-append p v in
    let split : zeros (n - length p) ≡ zeros (length v) ++ rest =
    ap zeros (let e : n - length p ≡ length v + (n - length (p ++ v)) = omega arith in e) ∙ sym (replicate-append-replicate (length v) _ 0) in
    let long : n ≡ length (filled n p) = simp (length-append, length-replicate) (omega arith) in
    sets-eq v (filled n p) (length p) (omega arith)
    ∙ ap₂ (λ (a b : List ℕ). a ++ v ++ b) (take-append_seam p (zeros (n - length p)))
    (drop-append-add p (zeros (n - length p)) (length v) ∙ ap (drop (length v)) split
    ∙ drop_at (zeros (length v)) rest (length v) (length-replicate (length v) 0))

-- What a list of entries needs to stand in a sheet.
pub record Fitting (f : Format) (w : List Entry) : Type 0 where
  pub room : length w ≤ f.records
  pub numbers : length w < 256
  pub disk : (i : ℕ) → i < length w → disk_of w i < 256 ^ f.disk_bytes
  pub stripe : (i : ℕ) → i < length w → stripe_of w i < 256

module _ (f : Format) where
  -- ---- the chain of records

  -- A record behind its number, and all of them without the zero that ends the chain.
  abbrev pub recordOf : ℕ → Entry → List ℕ
  recordOf n r = n ∷ (number_bytes f.disk_bytes r.disk ++ (r.stripe ∷ []))

  front : ℕ → List Entry → List ℕ
  front n [] = []
  front n (r ∷ rs) = recordOf n r ++ front (suc n) rs

  record-length : (n : ℕ) (r : Entry) → length (recordOf n r) ≡ record_bytes f
  record-length n r = simp (length-append, number-length) (omega arith)

  front_length : (n : ℕ) (w : List Entry) → length (front n w) ≡ record_bytes f * length w
  unfolding front
  front_length n [] = omega arith
  front_length n (r ∷ rs) =
      let up = front_length (suc n) rs in
      length-append (recordOf n r) (front (suc n) rs) ∙ (let here = record-length n r in omega arith)

  chain-cons : (n : ℕ) (r : Entry) (rs : List Entry) → chain_bytes f n (r ∷ rs) ≡ recordOf n r ++ chain_bytes f (suc n) rs
  unfolding chain_bytes
  chain-cons n r rs = ap (λ (l : List ℕ). n ∷ l) (sym (append_assoc (number_bytes f.disk_bytes r.disk) (r.stripe ∷ []) _))

  chain-split : (n : ℕ) (v w : List Entry) → chain_bytes f n (v ++ w) ≡ front n v ++ chain_bytes f (n + length v) w
  unfolding front
  chain-split n [] w = ap (λ (m : ℕ). chain_bytes f m w) (sym (add-zero n))
  chain-split n (r ∷ rs) w =
      let same : suc n + length rs ≡ n + suc (length rs) = omega arith in
      chain-cons n r (rs ++ w)
      ∙ ap (λ (l : List ℕ). recordOf n r ++ l) (chain-split (suc n) rs w ∙ ap (λ (m : ℕ). front (suc n) rs ++ chain_bytes f m w) same)
      ∙ sym (append_assoc (recordOf n r) (front (suc n) rs) _)

  small-chain : (n : ℕ) (w : List Entry) → n + length w ≤ 256 → ((i : ℕ) → i < length w → stripe_of w i < 256) → Small (chain_bytes f n w)
  unfolding chain_bytes stripe_of
  small-chain n [] h p = small_cons (omega arith) (record { at = λ i. omega arith })
  small-chain n (r ∷ rs) h p =
      small_cons (omega arith)
      (small-number f.disk_bytes r.disk
      (small_cons (p 0 (omega arith)) (small-chain (suc n) rs (omega arith) (λ i l. p (suc i) (omega arith)))))

  chain-front : (n : ℕ) (w : List Entry) → chain_bytes f n w ≡ front n w ++ (0 ∷ [])
  unfolding chain_bytes
  chain-front n w = ap (chain_bytes f n) (sym (append-nil w)) ∙ chain-split n w []

  -- From record number k + 1 on.
  chain-from : (n : ℕ) (w : List Entry) (k : ℕ) → k ≤ length w
      → drop (record_bytes f * k) (chain_bytes f n w) ≡ chain_bytes f (n + k) (drop k w)
  chain-from n w k h =
      let long : length (take k w) ≡ k = length-take-le k w h in
      ap (λ (v : List Entry). drop (record_bytes f * k) (chain_bytes f n v)) (sym (take-append-drop k w))
      ∙ ap (drop (record_bytes f * k)) (chain-split n (take k w) (drop k w))
      ∙ drop_at (front n (take k w)) _ (record_bytes f * k) (front_length n (take k w) ∙ ap (λ (m : ℕ). record_bytes f * m) long)
      ∙ ap (λ (m : ℕ). chain_bytes f (n + m) (drop k w)) long

  -- ---- the bytes of a sheet
  module _ (kind : ℕ) (w : List Entry) where
    pub sheet_length : length (sheet_of f kind w) ≡ sheet_bytes f
    unfolding sheet_of
    sheet_length = length-tabulate (sheet_bytes f) _

    pub sheet_kind : get_or (sheet_of f kind w) 0 0 ≡ kind
    unfolding sheet_of
    sheet_kind = get_d_tabulate (sheet_bytes f) _ 0 (omega arith)

    -- The kind and the chain, which ends with 0.
    sheet-ends : kind ∷ chain_bytes f 1 w ≡ (kind ∷ front 1 w) ++ (0 ∷ [])
    sheet-ends = ap (λ (l : List ℕ). kind ∷ l) (chain-front 1 w)

    sheet-filled : length w ≤ f.records → sheet_of f kind w ≡ filled (sheet_bytes f) (kind ∷ front 1 w)
    unfolding sheet_of
    sheet-filled room =
        let most = mul-le-mul_left (record_bytes f) room in
        let long = front_length 1 w in
        filled_is (sheet_bytes f) (kind ∷ front 1 w) sheet-ends (omega arith)

  -- Writing one record more, behind the number that leads to it.
  pub append_record : (kind : ℕ) (w : List Entry) (r : Entry) → length w < f.records
      → sets (sheet_of f kind w) (1 + record_bytes f * length w) (recordOf (1 + length w) r) ≡ sheet_of f kind (w ++ (r ∷ []))
  unfolding chain_bytes sheet_of
  append_record kind w r room =
      let p : List ℕ = kind ∷ front 1 w in
      let v : List ℕ = recordOf (1 + length w) r in
      let most = mul-le-mul_left (record_bytes f) room in
      let long : length p ≡ 1 + record_bytes f * length w = let e = front_length 1 w in omega arith in
      let more = record-length (1 + length w) r in
      let both = length-append p v in
      let chain : chain_bytes f 1 (w ++ (r ∷ [])) ≡ front 1 w ++ v ++ (0 ∷ []) =
      chain-split 1 w (r ∷ []) ∙ ap (λ (l : List ℕ). front 1 w ++ l) (chain-cons (1 + length w) r [])
      ∙ sym (append_assoc (front 1 w) v (0 ∷ [])) in
      ap₂ (λ (s : List ℕ) (i : ℕ). sets s i v) (sheet-filled kind w (omega arith)) (sym long)
      ∙ filled_more (sheet_bytes f) p v (omega arith)
      ∙ sym (filled_is (sheet_bytes f) (p ++ v) (ap (λ (l : List ℕ). kind ∷ l) chain) (omega arith))

  -- ---- paper 01's words
  module _ (kind : ℕ) (w : List Entry) (byte : kind < 256) (fits : Fitting f w) where
    sheet-flat : (i : ℕ) → get_or (sheet_of f kind w) i 0 ≡ get_or (kind ∷ chain_bytes f 1 w) i 0
    sheet-flat i =
        ap (λ (s : List ℕ). get_or s i 0) (sheet-filled kind w fits.room)
        ∙ filled_at (sheet_bytes f) (kind ∷ front 1 w) (sheet-ends kind w) i

    -- From the number that leads to record number j + 1 on.
    sheet_at_lem : (j m i : ℕ) → j ≤ length w → i ≡ 1 + record_bytes f * j + m
        → get_or (sheet_of f kind w) i 0 ≡ get_or (chain_bytes f (1 + j) (drop j w)) m 0
    sheet_at_lem j m i h e =
        let is : i ≡ suc (record_bytes f * j + m) = omega arith in
        sheet-flat i ∙ ap (λ (i : ℕ). get_or (kind ∷ chain_bytes f 1 w) i 0) is
        ∙ sym (get_or-drop (record_bytes f * j) (chain_bytes f 1 w) m 0) ∙ ap (λ (l : List ℕ). get_or l m 0) (chain-from 1 w j h)

    -- The same of a record that is there: its number, its disk and its stripe.
    sheet-record : (j m i : ℕ) → j < length w → i ≡ 1 + record_bytes f * j + m
        → get_or (sheet_of f kind w) i 0
        ≡ get_or ((1 + j) ∷ (number_bytes f.disk_bytes (disk_of w j) ++ (stripe_of w j ∷ chain_bytes f (suc (1 + j)) (drop (suc j) w)))) m 0
    unfolding chain_bytes disk_of stripe_of
    sheet-record j m i h e =
        sheet_at_lem j m i (omega arith) e
        ∙ ap (λ (v : List Entry). get_or (chain_bytes f (1 + j) v) m 0) (drop-cons w j (record { disk = 0; stripe = 0 }) h)

    sheet-zero : (i : ℕ) → record_bytes f * length w < i → get_or (sheet_of f kind w) i 0 ≡ 0
    unfolding chain_bytes
    sheet-zero i h =
        let m : ℕ = i - suc (record_bytes f * length w) in
        sheet_at_lem (length w) m i (omega arith) (omega arith)
        ∙ ap (λ (v : List Entry). get_or (chain_bytes f (1 + length w) v) m 0) (drop-length w) ∙ zeros-behind [] 1 m

    -- Behind record k stands the number that leads to record k + 1.
    place : (k : ℕ) → 1 ≤ k → record_at f k + f.disk_bytes + 1 ≡ 1 + record_bytes f * k
    place k h =
        let is : k ≡ suc (k - 1) = omega arith in
        let e = ap (λ (k : ℕ). record_bytes f * k) is ∙ mul-suc (record_bytes f) (k - 1) in
        omega arith

    pub sheet_bytes_lem : SheetBytes f kind w (sheet_of f kind w)
    sheet_bytes_lem =
        record {
          long = sheet_length kind w;
          bytes = λ i h.
              let is = sheet-flat i in
              let small = (small_cons byte (small-chain 1 w (omega (arith, fits.numbers)) fits.stripe)).at i in
              omega arith;
          kind_first = sheet_kind kind w;
          first_record = λ h. sheet-record 0 0 1 h (omega arith);
          no_record = λ h. sheet-zero 1 (let e = ap (λ (n : ℕ). record_bytes f * n) h in omega arith);
          disk = λ k h l.
              let v : ℕ = disk_of w (k - 1) in
              let long = number-length f.disk_bytes v in
              number_read f.disk_bytes v _ (record_at f k) (fits.disk (k - 1) (omega arith)) (λ m i b e.
              sheet-record (k - 1) (suc m) i (omega arith) (omega arith)
              ∙ get_or-append (number_bytes f.disk_bytes v) _ 0 m (omega arith));
          stripe = λ k h l.
              let v : ℕ = disk_of w (k - 1) in
              sheet-record (k - 1) (suc f.disk_bytes) _ (omega arith) (omega arith)
              ∙ get_or_at (number_bytes f.disk_bytes v) _ _ 0 f.disk_bytes (number-length f.disk_bytes v);
          next = λ k h l. sheet-record k 0 _ l (place k h ∙ omega arith) ∙ omega arith;
          last = λ k h e. sheet-zero _ (let at = place k h in let e = ap (λ (n : ℕ). record_bytes f * n) e in omega arith);
          zeros = λ i h b. sheet-zero i (let e = place (length w + 1) (omega arith) in omega arith);
        }

    -- No other list has these bytes.
    module _ {s t : List ℕ} (p : SheetBytes f kind w s) (q : SheetBytes f kind w t) where
      abbrev Same : ℕ → Type 0
      Same i = get_or s i 0 ≡ get_or t i 0

      -- Byte m of record k.
      same-record : (k m i : ℕ) → 1 ≤ k → k ≤ length w → m < record_bytes f → i ≡ record_at f k + m → Same i
      same-record k m i h l b e =
          ⊎_elim
          (λ n.
          number_bytes_lem f.disk_bytes (record_at f k) (small s p.bytes) (small t q.bytes) (p.disk k h l ∙ sym (q.disk k h l)) m i n e)
          (λ n.
          ⊎_elim (λ d. subst Same (let is : record_at f k + f.disk_bytes ≡ i = omega arith in is) (p.stripe k h l ∙ sym (q.stripe k h l)))
          (λ d.
          subst Same (let is : record_at f k + f.disk_bytes + 1 ≡ i = omega arith in is)
          (⊎_elim (λ z. p.last k h z ∙ sym (q.last k h z)) (λ z. p.next k h z ∙ sym (q.next k h z)) (eq-or-lt_of_le l)))
          (eq-or-lt_of_le n))
          (lt_or_le m f.disk_bytes)

      same_byte : (i : ℕ) → i < sheet_bytes f → Same i
      same_byte zero b = p.kind_first ∙ sym q.kind_first
      same_byte (suc zero) b =
          ⊎_elim (λ n. p.first_record n ∙ sym (q.first_record n))
          (λ n. let e : length w ≡ 0 = omega arith in p.no_record e ∙ sym (q.no_record e)) (lt_or_le 0 (length w))
      same_byte (suc (suc i)) b =
          ⊎_elim
          (by_block (length w) (record_bytes f) (λ i. Same (suc (suc i)))
          (λ k m h l.
          let back = ap (λ (k : ℕ). record_bytes f * k) (let e : suc k - 1 ≡ k = omega arith in e) in
          same-record (suc k) m _ (omega arith) h l (omega arith))
          i)
          (λ n.
          let e = place (length w + 1) (omega arith) in
          p.zeros (suc (suc i)) (omega arith) b ∙ sym (q.zeros (suc (suc i)) (omega arith) b))
          (lt_or_le i (length w * record_bytes f))

      bytes_same : s ≡ t
      bytes_same = ext_get_or 0 s t (p.long ∙ sym q.long) (λ i b. same_byte i (subst (λ (n : ℕ). i < n) p.long b))

    pub sheet_is : (s : List ℕ) → (s ≡ sheet_of f kind w) ↔ SheetBytes f kind w s
    sheet_is s = (λ e. subst (SheetBytes f kind w) (sym e) sheet_bytes_lem, λ p. bytes_same p sheet_bytes_lem)
