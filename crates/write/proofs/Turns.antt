-- The parts of a write, and that parts at every place of the block make the written array.
-- Assumes nothing.
use mathlib.Core.Path.{◌≡◌, refl, sym, ◌∙◌, ap, ap₂}
use mathlib.Core.Bool.{Bool, true, false, cond, ◌||◌}
use mathlib.Core.Logic.{◌⊎◌, inl, inr, ⊎_elim}
use mathlib.Core.List.{List}
use Prim.Native.Nat.{ℕ, zero, suc, ◌+◌, ◌*◌, ◌-◌, ◌/◌, ◌%◌, ◌≤◌, ◌<◌}
use native.Mathlib.Nat.{add_assoc, add-sub_of_le, mul-zero, mul-suc, le_of_lt, le_refl}
use native.Mathlib.Numerals.{add-one}
use native.Mathlib.Omega.{arith}
use borrow.Author.Tests.{eq-eqb, ne_eqb, eqb-true, leb-true, le-leb, lt-ltb}
use lib.Arith.{digits_lt, digits_div, digits_mod}
use lib.Dec.{eqb, ltb}
use lib.ListN.{length, get_or}
use Rattle.stripes.specs.Fold.{◌⊕◌, gate}
use Rattle.stripes.specs.System.{byte}
use Rattle.stripes.specs.declared.Stretch.{Stretch}
use Rattle.model.specs.Grid.{rows, columns, across, disks, disk_at, is_data, array_bytes, size_fits, block_fits}
use Rattle.model.specs.Array.{is_parity_of, written}
use Rattle.model.specs.declared.Size.{Size}
use Rattle.stripes.proofs.Xor.{⊕_assoc, ⊕_self, ⊕-zero, zero-⊕, ⊕_cancel}
use Rattle.stripes.proofs.Fold.{and_left, lt_or_le, gate-⊕, gate-zero}
use Rattle.stripes.proofs.Bytes.{byte-whole, covers, changed_at, block-before}
use Rattle.model.proofs.Grid.{disk_is, disk-below, data_row, data_column, data_below, array_is, block_within, bytes-bound, size_fits_lem, block_fits_lem}
use Rattle.model.proofs.Write.{WriteFits, touched, written_byte_is}
use Rattle.xor.specs.Strided.{added}
use Rattle.xor.proofs.Added.{added_ext, length-added}
use Rattle.sums.proofs.Blocks.{stored_stretch}
use Rattle.write.specs.Store.{places_of, Room, part, parts}
use Rattle.write.specs.declared.store.Places.{Places}

-- No block starts further in than the largest array reaches.
pub start-bound : (z : Size) (B : ℕ) → size_fits z ≡ true → block_fits B ≡ true → (d : ℕ) → d < disks z → d * B ≤ 1048576
start-bound z B size block d below =
    let inside = block_within z B (array_bytes z B) refl d below in
    let bound = bytes-bound z (size_fits_lem z size) B (block_fits_lem B block) in
    omega arith

-- ---- the loop in the code's own terms
module _ (at : Places) (new : List ℕ) (w : ℕ) where
  -- The four sums that a turn takes, of the difference v.
  pub part_is : (a : List ℕ) (k : ℕ) (v b c d e : List ℕ)
      → ((i : ℕ) → i < w → get_or v i 0 ≡ get_or a (at.own + k + i) 0 ⊕ get_or new (k + i) 0)
      → b ≡ added a (at.own + k) w (λ i. get_or v i 0)
      → c ≡ added b (at.row + k) w (λ i. get_or v i 0)
      → d ≡ added c (at.column + k) w (λ i. get_or v i 0)
      → e ≡ added d (at.corner + k) w (λ i. get_or v i 0)
      → e ≡ part at new w a k
  unfolding part
  part_is a k v b c d e change p q r s =
      step (at.corner + k) s (step (at.column + k) r (step (at.row + k) q (step (at.own + k) p refl)))
    where
      step : {l n m : List ℕ} (x : ℕ) → n ≡ added l x w (λ i. get_or v i 0) → l ≡ m
          → n ≡ added m x w (λ i. get_or a (at.own + (k + i)) 0 ⊕ get_or new (k + i) 0)
      step {l} {n} {m} x p q =
          p ∙ ap (λ (l : List ℕ). added l x w (λ i. get_or v i 0)) q
          ∙ added_ext m x w (λ i h. change i h ∙ ap (λ (j : ℕ). get_or a j 0 ⊕ get_or new (k + i) 0) (add_assoc at.own k i))

  length_part : (a : List ℕ) (k : ℕ) → length (part at new w a k) ≡ length a
  unfolding part
  length_part a k = simp length-added

  pub parts_next : (from : ℕ) (a b : List ℕ) (i : ℕ) → b ≡ parts at new from w a i → part at new w b (from + w * i) ≡ parts at new from w a (i + 1)
  unfolding parts
  parts_next from a b i e = rw add-one (ap (λ (l : List ℕ). part at new w l (from + w * i)) e)

-- ---- one sum, at place p of disk e

-- The w places of a block from k on.
abbrev stretch : (B k w : ℕ) → Stretch
stretch B k w = record { block = B; offset = k; width = w }

-- Place p, counted from k on and back.
back : (B k w p : ℕ) → covers (stretch B k w) p ≡ true → k + (p - k) ≡ p
unfolding covers
back B k w p h = add-sub_of_le (leb-true k p (and_left _ (ltb p (k + w)) h))

-- A sum at these places of the block of disk x.
module _ (B k w : ℕ) (f : ℕ → ℕ) (e p : ℕ) where
  chosen : (l : List ℕ) (x : ℕ) (s t : Bool) → covers (stretch B k w) p ≡ s → eqb e x ≡ t
      → cond s (cond t (get_or l (x * B + k + (p - k)) 0 ⊕ f (k + (p - k))) (get_or l (e * B + (k + (p - k))) 0)) (get_or l (e * B + p) 0)
      ≡ get_or l (e * B + p) 0 ⊕ gate t (gate s (f p))
  unfolding gate
  chosen l x true true h g =
      rw (← eqb-true e x g) (ap₂ (λ (i j : ℕ). get_or l i 0 ⊕ f j) (let same = back B k w p h in omega arith) (back B k w p h))
  chosen l x true false h g = ap (λ (i : ℕ). get_or l (e * B + i) 0) (back B k w p h) ∙ sym (⊕-zero _)
  chosen l x false t h g = sym (⊕-zero _) ∙ ap (λ (v : ℕ). get_or l (e * B + p) 0 ⊕ v) (sym (gate-zero t))

  added-at : k + w ≤ B → p < B → (n : ℕ) → e < n → (l : List ℕ) → length l ≡ n * B → (x : ℕ) → x < n
      → get_or (added l (x * B + k) w (λ i. f (k + i))) (e * B + p) 0 ≡ get_or l (e * B + p) 0 ⊕ gate (eqb e x) (gate (covers (stretch B k w) p) (f p))
  unfolding added byte
  added-at fits b n h l sized x below =
      ap (λ (m : List ℕ). get_or m (e * B + p) 0) (stored_stretch (stretch B k w) fits n l sized x below _)
      ∙ changed_at (stretch B k w) l _ (e * B + p) (let i = digits_lt h b in omega arith)
      ∙ rw (digits_div e b, digits_mod e b) (chosen l x (covers (stretch B k w) p) (eqb e x) refl refl)

-- ---- a part, at place p of disk e

-- Of two tests of which one holds at most.
one_of : (s t : Bool) (v : ℕ) → (s ≡ true → t ≡ false) → gate s v ⊕ gate t v ≡ gate (s || t) v
unfolding gate
one_of true t v h = ap (λ (b : Bool). v ⊕ gate b v) (h refl) ∙ ⊕-zero v
one_of false t v h = zero-⊕ (gate t v)

-- P, Q and S of a data disk.
abbrev P : Size → ℕ → ℕ
P z d = disk_at z (d / across z) (columns z)

abbrev Q : Size → ℕ → ℕ
Q z d = disk_at z (rows z) (d % across z)

abbrev S : Size → ℕ
S z = disk_at z (rows z) (columns z)

module _ (z : Size) (d : ℕ) (isdata : is_data z d ≡ true) where
  -- They are disks of the grid.
  inside : (P z d < disks z) × (Q z d < disks z) × (S z < disks z)
  inside = (
    disk-below z (d / across z) (columns z) (le_of_lt (data_row z d isdata)) (le_refl (columns z)),
    disk-below z (rows z) (d % across z) (le_refl (rows z)) (le_of_lt (data_column z d isdata)),
    disk-below z (rows z) (columns z) (le_refl (rows z)) (le_refl (columns z)),
  )

  -- They stand in this order after d, so e is one of the four disks at most.
  ordered : (d < P z d) × (P z d < Q z d) × (Q z d < S z)
  unfolding disk_at across
  ordered =
      let self = disk_is z d in
      let column = data_column z d isdata in
      let end : d / across z * across z + across z ≤ rows z * across z = block-before (across z) (data_row z d isdata) in
      (omega arith, omega arith, omega arith)

  all-four : (e y v : ℕ) → y ⊕ gate (eqb e d) v ⊕ gate (eqb e (P z d)) v ⊕ gate (eqb e (Q z d)) v ⊕ gate (eqb e (S z)) v
      ≡ y ⊕ gate (touched z d e) v
  unfolding touched is_parity_of
  all-four e y v =
      let (dp, pq, qs) = ordered in
      simp ⊕_assoc
      (ap (λ (x : ℕ). y ⊕ x)
      (ap (λ (x : ℕ). gate (eqb e d) v ⊕ x)
      (ap (λ (x : ℕ). gate (eqb e (P z d)) v ⊕ x)
      (one_of (eqb e (Q z d)) _ v (λ h. let i = eqb-true e (Q z d) h in simp (ne_eqb e (S z) (omega arith))))
      ∙ one_of (eqb e (P z d)) _ v (λ h. let i = eqb-true e (P z d) h in simp (ne_eqb e (Q z d) (omega arith), ne_eqb e (S z) (omega arith))))
      ∙ one_of (eqb e d) _ v
      (λ h. let i = eqb-true e d h in simp (ne_eqb e (P z d) (omega arith), ne_eqb e (Q z d) (omega arith), ne_eqb e (S z) (omega arith)))))

module _ (z : Size) (B d : ℕ) (new : List ℕ) (isdata : is_data z d ≡ true) where
  -- Inside the part the difference is added to the four disks.
  part_at : (w k : ℕ) → k + w ≤ B → (l : List ℕ) → length l ≡ array_bytes z B → (e p : ℕ) → e < disks z → p < B
      → get_or (part (places_of z B d) new w l k) (e * B + p) 0
      ≡ get_or l (e * B + p) 0 ⊕ gate (touched z d e) (gate (covers (stretch B k w) p) (get_or l (d * B + p) 0 ⊕ get_or new p 0))
  unfolding part array_bytes
  part_at w k fits l long e p h b =
      let one = added-at B k w (λ q. get_or l (d * B + q) 0 ⊕ get_or new q 0) e p fits b (disks z) h in
      let v : ℕ = gate (covers (stretch B k w) p) (get_or l (d * B + p) 0 ⊕ get_or new p 0) in
      let (P-inside, Q-inside, S-inside) = inside z d isdata in
      one _ (simp length-added long) (S z) S-inside
      ∙ ap (λ (y : ℕ). y ⊕ gate (eqb e (S z)) v)
      (one _ (simp length-added long) (Q z d) Q-inside
      ∙ ap (λ (y : ℕ). y ⊕ gate (eqb e (Q z d)) v)
      (one _ (simp length-added long) (P z d) P-inside ∙ ap (λ (y : ℕ). y ⊕ gate (eqb e (P z d)) v) (one l long d (data_below z d isdata))))
      ∙ all-four z d isdata e _ v

-- The four blocks lie within the array.
pub room : (z : Size) (B d : ℕ) (new l : List ℕ) {len : ℕ} → WriteFits z B len d (length new) → length l ≡ len
    → (n : ℕ) → n ≤ B → Room n (places_of z B d) new l
room z B d new l fits same n h =
    let (P-inside, Q-inside, S-inside) = inside z d fits.disk in
    let starts : (x : ℕ) → x < disks z → x * B + n ≤ length l =
    λ x k. let whole = block_within z B (length l) (same ∙ fits.array.long) x k in omega arith in
    record {
      new_inside = let long = fits.long in omega arith;
      own_inside = starts d (data_below z d fits.disk);
      row_inside = starts (P z d) P-inside;
      column-inside = starts (Q z d) Q-inside;
      corner_inside = starts (S z) S-inside;
    }

-- ---- an array between the parts
module _ (z : Size) (B : ℕ) (a : List ℕ) (d : ℕ) (new : List ℕ) (fits : WriteFits z B (length a) d (length new)) where
  -- It differs from a on the four disks alone, by the same on each; and the block is new at the places of D.
  record Stored (D : ℕ → Type 0) (l : List ℕ) : Type 0 where
    long : length l ≡ array_bytes z B
    moved : (e p : ℕ) → e < disks z → p < B
        → get_or l (e * B + p) 0 ≡ get_or a (e * B + p) 0 ⊕ gate (touched z d e) (get_or a (d * B + p) 0 ⊕ get_or l (d * B + p) 0)
    fresh : (p : ℕ) → p < B → D p → get_or l (d * B + p) 0 ≡ get_or new p 0

  none-stored : Stored (λ p. ⊥) a
  none-stored = record { long = fits.array.long; moved = λ e p h b. simp (⊕_self, gate-zero, ⊕-zero); fresh = λ p b no. absurd no }

  part-stored : (w k : ℕ) → k + w ≤ B → {D : ℕ → Type 0} (l : List ℕ) → Stored D l
      → Stored (λ p. D p ⊎ ((k ≤ p) × (p < k + w))) (part (places_of z B d) new w l k)
  unfolding gate covers
  part-stored w k inside l s =
      let at = part_at z B d new fits.disk w k inside l s.long in
      let own : (p : ℕ) → p < B → get_or (part (places_of z B d) new w l k) (d * B + p) 0
      ≡ get_or l (d * B + p) 0 ⊕ gate (covers (stretch B k w) p) (get_or l (d * B + p) 0 ⊕ get_or new p 0) =
      λ p b. at d p (data_below z d fits.disk) b ∙ (unfold touched in simp (eq-eqb d d refl)) in
      record {
        long = length_part (places_of z B d) new w l k ∙ s.long;
        moved = λ e p h b. at e p h b ∙ simp (own p b, s.moved e p h b, gate-⊕, ⊕_assoc);
        fresh = λ p b.
            ⊎_elim (λ y. own p b ∙ rw (s.fresh p b y, ⊕_self, gate-zero, ⊕-zero))
            (λ (low, high). own p b ∙ simp (le-leb k p low, lt-ltb p (k + w) high) (⊕_cancel _ _));
      }

  parts-stored : (w from n : ℕ) → from + w * n ≤ B → {D : ℕ → Type 0} (l : List ℕ) → Stored D l
      → Stored (λ p. D p ⊎ ((from ≤ p) × (p < from + w * n))) (parts (places_of z B d) new from w l n)
  unfolding parts
  parts-stored w from zero h l s =
      record {
        long = s.long;
        moved = s.moved;
        fresh = λ p b. ⊎_elim (s.fresh p b) (λ (low, high). let none = mul-zero w in absurd (omega arith));
      }
  parts-stored w from (suc n) h l s =
      let more : w * suc n ≡ w * n + w = mul-suc w n in
      let m = part-stored w (from + w * n) (omega arith) _ (parts-stored w from n (omega arith) l s) in
      record {
        long = m.long;
        moved = m.moved;
        fresh = λ p b.
            ⊎_elim (λ y. m.fresh p b (inl (inl y)))
            (λ (low, high). ⊎_elim (λ q. m.fresh p b (inl (inr (low, q)))) (λ q. m.fresh p b (inr (q, omega arith))) (lt_or_le p (from + w * n)));
      }

  -- New at every place, it is the written array.
  all-stored : {D : ℕ → Type 0} (l : List ℕ) → Stored D l → ((p : ℕ) → p < B → D p) → l ≡ written z B a d new
  unfolding written
  all-stored l s done =
      array_is z B _ l s.long (λ e p h b.
      s.moved e p h b ∙ rw (s.fresh p b (done p b), ← byte-whole B a e p, ← byte-whole B a d p) (sym (written_byte_is z B a d new e p)))

  -- A block below 16 bytes, byte by byte.
  pub bytes-written : (l : List ℕ) → l ≡ parts (places_of z B d) new 0 1 a B → l ≡ written z B a d new
  bytes-written l e =
      e ∙ all-stored _ (parts-stored 1 0 B (omega arith) a none-stored)
      (λ p b. inr (omega arith, omega arith))

  -- A longer one: the last part first, then all others.
  pub parts_written : (t : ℕ) → 16 ≤ B → t ≡ (B % 16 + 15) / 16 → (k l m : List ℕ)
      → k ≡ parts (places_of z B d) new (B - 16 * t) 16 a t
      → l ≡ parts (places_of z B d) new 0 128 k (B / 128)
      → m ≡ parts (places_of z B d) new (B - B % 128) 16 l (B % 128 / 16)
      → m ≡ written z B a d new
  parts_written t least t-is k l m e f g =
      let last = parts-stored 16 (B - 16 * t) t (omega arith) a none-stored in
      let wide = parts-stored 128 0 (B / 128) (omega arith) _ last in
      let narrow = parts-stored 16 (B - B % 128) (B % 128 / 16) (omega arith) _ wide in
      rw (g, f, e)
      (all-stored _ narrow
      (λ p b.
      ⊎_elim (λ o. inl (inr (omega arith, omega arith)))
      (λ o. ⊎_elim (λ u. inr (omega arith, omega arith)) (λ u. inl (inl (inr (omega arith, omega arith)))) (lt_or_le p (B - B % 16)))
      (lt_or_le p (128 * (B / 128)))))
