-- Demand 2: what seal, check and write promise of the array, for every size, block and input.
-- Assumes nothing.
use mathlib.Core.Path.{◌≡◌, refl, sym, ◌∙◌, ap, subst, fun_ext}
use mathlib.Core.Bool.{Bool, true, false, cond}
use mathlib.Core.Logic.{◌↔◌}
use mathlib.Core.List.{List}
use Prim.Native.Nat.{ℕ, suc, ◌+◌, ◌*◌, ◌/◌, ◌%◌, ◌≤◌, ◌<◌}
use native.Mathlib.Omega.{arith}
use borrow.Author.Tests.{eqb-true, ltb-true}
use lib.Dec.{eqb, ltb}
use lib.ListN.{length, get_or}
use Rattle.stripes.specs.Fold.{◌⊕◌, xsum}
use Rattle.stripes.specs.System.{whole, byte, sum_over, stripe_sum, Codeword}
use Rattle.stripes.specs.Sectors.{stretch_at}
use Rattle.model.specs.Grid.{rows, columns, disk_at, layout_of, column_base, grid, across, disks, array_bytes, is_data, rectangle, down}
use Rattle.model.specs.Equations.{cell, row_data, column_data, Equations}
use Rattle.model.specs.Refusal.{refusal, array_tests}
use Rattle.model.specs.Array.{encoded_byte, encoded, seal_status, seal_array, checked, check_status, is_parity_of, written_byte, written, replaced, write_status, write_array}
use Rattle.model.specs.declared.Size.{Size}
use Rattle.model.specs.Checked.{Sealed, Unsealed, Refused}
use Rattle.model.specs.Demand2.{SameAt, SealDemand, CheckDemand, WriteDemand}
use Rattle.model.proofs.Equations.{equations_iff_sums}
use Rattle.model.proofs.Refusal.{given-refused}
use Rattle.model.proofs.Seal.{Same, seal_fits, seal_is, encoded-length, encoded-same, encoded-kept, encoded-equations, encoded_exact, encoded-small, same_of_data, data_of_same}
use Rattle.model.proofs.Check.{answer-sealed, answer_unsealed, answer-zero}
use Rattle.model.proofs.Write.{write_fits, write_is, written_sum, written-block, written-others, written-sealed, replaced_status}
use Rattle.model.proofs.Accept.{array_accepts, block_accepts}
use Rattle.stripes.proofs.Xor.{⊕_self, ⊕-zero}
use Rattle.stripes.proofs.Fold.{by_cases, xsum_ext}
use Rattle.stripes.proofs.Bytes.{block-before, by_block}
use Rattle.stripes.proofs.Sectors.{byte-block}
use Rattle.model.proofs.Grid.{rows-below, data_at, byte-array_of}

-- ---- which arguments are taken

-- With a data rows and b data columns, just these sizes, blocks and lengths.
pub accepts : (a b B len : ℕ) → (refusal (array_tests (rectangle a b) B len) ≡ 0)
    ↔ ((2 ≤ a) × (a ≤ 15) × (2 ≤ b) × (b ≤ 15) × (1 ≤ B) × (B ≤ 4096) × (len ≡ (a + 1) * (b + 1) * B))
accepts = array_accepts

-- A write takes, besides, just a data disk, in row r and column c, and a block of B bytes.
pub write_accepts : (a b B : ℕ) (array : List ℕ) (d : ℕ) (new : List ℕ) → (write_status (rectangle a b) B array d new ≡ 0)
    ↔ ((refusal (array_tests (rectangle a b) B (length array)) ≡ 0)
    × ((r : ℕ) × (c : ℕ) × (r < a) × (c < b) × (d ≡ r * (b + 1) + c)) × (length new ≡ B))
write_accepts = block_accepts

-- ---- seal

-- A seal that is refused changes nothing.
pub seal_refused : (z : Size) (B : ℕ) (a : List ℕ) → (seal_status z B a ≡ 0 → ⊥) → seal_array z B a ≡ a
unfolding seal_array
seal_refused z B a refused = given-refused (seal_status z B a) _ _ refused

module _ (z : Size) (B : ℕ) (a : List ℕ) (ok : seal_status z B a ≡ 0) where
  -- After a seal the parity equations hold.
  pub seal_equations : Equations z (whole B) (seal_array z B a)
  seal_equations = subst (λ (b : List ℕ). Equations z (whole B) b) (sym (seal_is z B a ok)) (encoded-equations z B a)

  -- A seal keeps the array's length and every byte of every data disk.
  pub seal_length : length (seal_array z B a) ≡ length a
  seal_length = subst (λ (b : List ℕ). length b ≡ length a) (sym (seal_is z B a ok)) (encoded-length z B a ∙ sym (seal_fits z B a ok).long)

  pub seal_data : (d : ℕ) → is_data z d ≡ true → (p : ℕ) → p < B → byte (whole B) (seal_array z B a) d p ≡ byte (whole B) a d p
  seal_data = data_of_same z B a (seal_array z B a) (subst (λ (b : List ℕ). Same z B a b) (sym (seal_is z B a ok)) (encoded-same z B a))

  -- There is just one such array: one of that length that has those data and keeps the equations is what seal makes.
  pub seal_exact : (b : List ℕ) → length b ≡ length a
      → ((d : ℕ) → is_data z d ≡ true → (p : ℕ) → p < B → byte (whole B) b d p ≡ byte (whole B) a d p)
      → Equations z (whole B) b → b ≡ seal_array z B a
  seal_exact b long kept e = encoded_exact z B a b (long ∙ (seal_fits z B a ok).long) (same_of_data z B a b kept) e ∙ sym (seal_is z B a ok)

  -- An array of bytes is sealed to a codeword of the grid.
  pub seal_codeword : ((i : ℕ) → i < length a → get_or a i 0 < 256) → Codeword (layout_of z (column_base z)) (whole B) (seal_array z B a)
  unfolding layout_of grid whole array_bytes disks across down
  seal_codeword small =
      record {
        sized = seal_length ∙ (seal_fits z B a ok).long;
        bytes = subst (λ (b : List ℕ). (i : ℕ) → i < length b → get_or b i 0 < 256) (sym (seal_is z B a ok)) (encoded-small z B a small);
        sums = (equations_iff_sums z (column_base z) (rows-below z (seal_fits z B a ok).size) (whole B) (seal_array z B a)).0 seal_equations;
      }

-- Each place of a block is sealed by itself: two arrays with the same data there get the same parities there. So a seal at one position of
-- the sectors does not depend on the others.
pub seal_places : (z : Size) (B : ℕ) (a b : List ℕ) → seal_status z B a ≡ 0 → seal_status z B b ≡ 0 → (p : ℕ) → p < B
    → ((d : ℕ) → is_data z d ≡ true → byte (whole B) a d p ≡ byte (whole B) b d p)
    → (e : ℕ) → e < disks z → byte (whole B) (seal_array z B a) e p ≡ byte (whole B) (seal_array z B b) e p
unfolding encoded encoded_byte row_data column_data cell
seal_places z B a b okA okB p h same e l =
    rw (seal_is z B a okA, seal_is z B b okB)
    (byte-array_of z B _ e p l h ∙ go (ltb (e % across z) (columns z)) refl (ltb (e / across z) (rows z)) refl ∙ sym (byte-array_of z B _ e p l h))
  where
    row : (r : ℕ) → r < rows z → xsum (columns z) (λ c. byte (whole B) a (disk_at z r c) p) ≡ xsum (columns z) (λ c. byte (whole B) b (disk_at z r c) p)
    row r k = xsum_ext (columns z) (λ c m. same (disk_at z r c) (data_at z r c k m))

    go : (s : Bool) → ltb (e % across z) (columns z) ≡ s → (t : Bool) → ltb (e / across z) (rows z) ≡ t
        → cond s (cond t (byte (whole B) a (disk_at z (e / across z) (e % across z)) p) (xsum (rows z) (λ r. byte (whole B) a (disk_at z r (e % across z)) p)))
        (cond t (xsum (columns z) (λ c. byte (whole B) a (disk_at z (e / across z) c) p)) (xsum (rows z) (λ r. xsum (columns z) (λ c. byte (whole B) a (disk_at z r c) p))))
        ≡ cond s (cond t (byte (whole B) b (disk_at z (e / across z) (e % across z)) p) (xsum (rows z) (λ r. byte (whole B) b (disk_at z r (e % across z)) p)))
        (cond t (xsum (columns z) (λ c. byte (whole B) b (disk_at z (e / across z) c) p)) (xsum (rows z) (λ r. xsum (columns z) (λ c. byte (whole B) b (disk_at z r c) p))))
    go true s true t = same _ (data_at z _ _ (ltb-true _ _ t) (ltb-true _ _ s))
    go true s false t = xsum_ext (rows z) (λ r k. same _ (data_at z r _ k (ltb-true _ _ s)))
    go false s true t = row _ (ltb-true _ _ t)
    go false s false t = xsum_ext (rows z) row

-- ---- check

-- A check that is refused answers the refusal.
pub check_refused : (z : Size) (B : ℕ) (a : List ℕ) → (refusal (array_tests z B (length a)) ≡ 0 → ⊥)
    → checked z B a ≡ Refused (refusal (array_tests z B (length a)))
unfolding checked
check_refused z B a refused = given-refused (refusal (array_tests z B (length a))) _ _ refused

-- A check answers 0 if and only if nothing is refused and the parity equations hold.
pub check_zero : (z : Size) (B : ℕ) (a : List ℕ)
    → (check_status (checked z B a) ≡ 0) ↔ ((refusal (array_tests z B (length a)) ≡ 0) × Equations z (whole B) a)
check_zero z B a = answer-zero z B a

module _ (z : Size) (B : ℕ) (a : List ℕ) (ok : refusal (array_tests z B (length a)) ≡ 0) where
  -- A check answers Sealed if and only if the parity equations hold.
  pub check_sealed : (checked z B a ≡ Sealed) ↔ Equations z (whole B) a
  check_sealed = answer-sealed z B a ok

  -- A check answers Unsealed s if and only if the sum of stripe s is not zero at some place, and no lower stripe's is.
  pub check_unsealed : (s : ℕ) → (checked z B a ≡ Unsealed s)
      ↔ ((s < (layout_of z (column_base z)).stripe_bound) × ((p : ℕ) × (p < B) × (stripe_sum (layout_of z (column_base z)) (whole B) a s p ≡ 0 → ⊥))
      × ((i : ℕ) → i < s → (p : ℕ) → p < B → stripe_sum (layout_of z (column_base z)) (whole B) a i p ≡ 0))
  check_unsealed = answer_unsealed z B a ok

-- ---- write

module _ (z : Size) (B : ℕ) (a : List ℕ) (d : ℕ) (new : List ℕ) where
  -- A write that is refused changes nothing.
  pub write_refused : (write_status z B a d new ≡ 0 → ⊥) → write_array z B a d new ≡ a
  unfolding write_array
  write_refused refused = given-refused (write_status z B a d new) _ _ refused

  -- A write keeps every stripe's sum at every place, also of an array that is not sealed.
  pub write_sums : write_status z B a d new ≡ 0 → (s : ℕ) → s < (layout_of z (column_base z)).stripe_bound → (p : ℕ) → p < B
      → stripe_sum (layout_of z (column_base z)) (whole B) (write_array z B a d new) s p ≡ stripe_sum (layout_of z (column_base z)) (whole B) a s p
  write_sums ok s l p h = rw (write_is z B a d new ok) (written_sum z B a d new (write_fits z B a d new ok) s l p h)

  -- The disk then holds the new block, and a disk that is none of its parities keeps its block.
  pub write_block : write_status z B a d new ≡ 0 → (p : ℕ) → p < B → byte (whole B) (write_array z B a d new) d p ≡ get_or new p 0
  write_block ok p h = rw (write_is z B a d new ok) (written-block z B a d new (write_fits z B a d new ok) p h)

  pub write_others : write_status z B a d new ≡ 0 → (e : ℕ) → e < disks z → (e ≡ d → ⊥) → is_parity_of z d e ≡ false
      → (p : ℕ) → p < B → byte (whole B) (write_array z B a d new) e p ≡ byte (whole B) a e p
  write_others ok e l other none p h = rw (write_is z B a d new ok) (written-others z B a d new e l other none p h)

  -- Where the new block has the byte that the disk had, no disk changes at that place. So a write that changes one sector changes sectors at
  -- that position only.
  pub write_places : write_status z B a d new ≡ 0 → (p : ℕ) → p < B → get_or new p 0 ≡ byte (whole B) a d p
      → (e : ℕ) → e < disks z → byte (whole B) (write_array z B a d new) e p ≡ byte (whole B) a e p
  unfolding written written_byte
  write_places ok p h same e l =
      rw (write_is z B a d new ok)
      (byte-array_of z B (written_byte z B a d new) e p l h
      ∙ by_cases (λ (t : Bool). cond t (get_or new p 0) (cond (is_parity_of z d e) (byte (whole B) a e p ⊕ (byte (whole B) a d p ⊕ get_or new p 0)) (byte (whole B) a e p)) ≡ byte (whole B) a e p)
      (eqb e d) (λ q. same ∙ ap (λ (i : ℕ). byte (whole B) a i p) (sym (eqb-true e d q)))
      (λ q. rw (same, ⊕_self (byte (whole B) a d p), ⊕-zero (byte (whole B) a e p)) (either (is_parity_of z d e) (byte (whole B) a e p))))
    where
      either : (t : Bool) (v : ℕ) → cond t v v ≡ v
      either true v = refl
      either false v = refl

  -- A write to a sealed array makes what sealing the array with the block replaced makes, which is not refused.
  pub write_sealed : write_status z B a d new ≡ 0 → Equations z (whole B) a
      → (seal_status z B (replaced z B a d new) ≡ 0) × (write_array z B a d new ≡ seal_array z B (replaced z B a d new))
  write_sealed ok e =
      let sealable = replaced_status z B a d new ok in (
        sealable,
        write_is z B a d new ok ∙ written-sealed z B a d new (write_fits z B a d new ok) e
            ∙ sym (seal_is z B (replaced z B a d new) sealable),
      )

-- ---- positions

-- A place of a sector is a place of the block.
place_inside : (n w B p q : ℕ) → B ≡ n * w → p < n → q < w → p * w + q < B
place_inside n w B p q cut place h = let end = block-before w place in omega arith

module _ (z : Size) (n w B : ℕ) (cut : B ≡ n * w) (a : List ℕ) where
  -- The sum of a stripe there is that of the block.
  sum-place : (s p q : ℕ) → stripe_sum (layout_of z (suc (rows z))) (stretch_at B w p) a s q ≡ stripe_sum (layout_of z (suc (rows z))) (whole B) a s (p * w + q)
  unfolding stripe_sum
  sum-place s p q = ap (λ (f : ℕ → ℕ). sum_over (layout_of z (suc (rows z))) f s) (fun_ext (λ d. byte-block n w B cut a p d q))

  -- The equations hold of the block exactly if they hold at each position.
  pub equations-positions : Equations z (whole B) a ↔ ((p : ℕ) → p < n → Equations z (stretch_at B w p) a)
  unfolding whole
  equations-positions =
      let above : rows z < suc (rows z) = omega arith in
      let all = equations_iff_sums z (suc (rows z)) above (whole B) a in (
        λ e p place.
            (equations_iff_sums z (suc (rows z)) above (stretch_at B w p) a).1
            (λ s l q h. sum-place s p q ∙ all.0 e s l (p * w + q) (place_inside n w B p q cut place h)),
        λ each.
            all.1
            (λ s l i h.
            by_block n w (λ i. stripe_sum (layout_of z (suc (rows z))) (whole B) a s i ≡ 0)
            (λ p q place k. sym (sum-place s p q) ∙ (equations_iff_sums z (suc (rows z)) above (stretch_at B w p) a).0 (each p place) s l q k) i
            (omega arith)),
      )

  -- Where they hold at a position, sealing keeps every byte there.
  pub seal_position : seal_status z B a ≡ 0 → (p : ℕ) → p < n → Equations z (stretch_at B w p) a → SameAt z B w p a (seal_array z B a)
  unfolding cell row_data column_data
  seal_position ok p place e d l q h =
      let i : ℕ = p * w + q in
      let at : (d : ℕ) → byte (stretch_at B w p) a d q ≡ byte (whole B) a d i = λ d. byte-block n w B cut a p d q in
      let row : (r : ℕ) → r < rows z → byte (whole B) a (disk_at z r (columns z)) i ≡ xsum (columns z) (λ c. byte (whole B) a (disk_at z r c) i) =
      λ r k. sym (at _) ∙ e.row_parity q h r k ∙ xsum_ext (columns z) (λ c m. at _) in
      at d
      ∙ encoded-kept z B a i (place_inside n w B p q cut place h) row
      (λ c k. sym (at _) ∙ e.column_parity q h c k ∙ xsum_ext (rows z) (λ r m. at _))
      (sym (at _) ∙ e.superparity_of_rows q h ∙ xsum_ext (rows z) (λ r k. at _ ∙ row r k)) d l
      ∙ ap (λ (b : List ℕ). byte (whole B) b d i) (sym (seal_is z B a ok)) ∙ sym (byte-block n w B cut (seal_array z B a) p d q)

-- ---- demand 2 of the calls, where nothing is refused

pub seal_demand : (z : Size) (B : ℕ) (a : List ℕ) → seal_status z B a ≡ 0 → SealDemand z B a (seal_array z B a)
seal_demand z B a ok =
    record {
      long = seal_length z B a ok;
      equations = seal_equations z B a ok;
      kept = seal_data z B a ok;
      positions = λ n w cut p place.
          ((equations-positions z n w B cut (seal_array z B a)).0 (seal_equations z B a ok) p place, seal_position z n w B cut a ok p place);
    }

pub check_demand : (z : Size) (B : ℕ) (a : List ℕ) → refusal (array_tests z B (length a)) ≡ 0 → CheckDemand z B a (check_status (checked z B a))
check_demand z B a ok =
    let says : (check_status (checked z B a) ≡ 0) ↔ Equations z (whole B) a = (λ e. ((check_zero z B a).0 e).1, λ e. (check_zero z B a).1 (ok, e)) in
    record {
      equations = says;
      positions = λ n w cut.
          let (each, all) = equations-positions z n w B cut a in (λ e. each (says.0 e), λ e. says.1 (all e));
    }

pub write_demand : (z : Size) (B : ℕ) (a : List ℕ) (d : ℕ) (new : List ℕ) → write_status z B a d new ≡ 0
    → WriteDemand z B a d new (write_array z B a d new)
write_demand z B a d new ok =
    record {
      sealed = write_sealed z B a d new ok;
      sums = write_sums z B a d new ok;
      positions = λ n w cut p place same e l q h.
          byte-block n w B cut a p e q
          ∙ sym (write_places z B a d new ok (p * w + q) (place_inside n w B p q cut place h) (same q h ∙ byte-block n w B cut a p d q) e l)
          ∙ sym (byte-block n w B cut (write_array z B a d new) p e q);
    }
