-- The determined disks summed one after another.
-- Assumes nothing.
use mathlib.Core.Path.{◌≡◌, refl, sym, ◌∙◌, ap, ap₂, subst}
use mathlib.Core.Bool.{Bool, true, false, cond, ◌&&◌, and-true, and-false}
use mathlib.Core.Logic.{◌⊎◌, ⊎_elim}
use mathlib.Core.List.{List}
use Prim.Native.Nat.{ℕ, ◌+◌, ◌*◌, ◌≤◌, ◌<◌, zero-le}
use native.Mathlib.Numerals.{add-one}
use native.Mathlib.Omega.{arith}
use borrow.Author.Tests.{eqb-true, eqb-false}
use lib.Dec.{eqb, ltb}
use lib.ListN.{length}
use Rattle.stripes.specs.Fold.{bit, count}
use Rattle.stripes.specs.System.{Layout, TwoStripes, lower, byte, changed}
use Rattle.stripes.specs.Erased.{erasures, without, below, Agree}
use Rattle.stripes.specs.Joined.{joined}
use Rattle.stripes.specs.Undetermined.{determined, saved_byte, saved}
use Rattle.stripes.specs.declared.Stretch.{Stretch}
use Rattle.stripes.proofs.Fold.{by_cases, count_over, count_le}
use Rattle.stripes.proofs.Bytes.{byte-changed, changed-again, changed_self, changed_ext}
use Rattle.stripes.proofs.Peel.{without_other}
use Rattle.stripes.proofs.Erased.{below_is, is_below, below-not, below_all, below_over, below_last}
use Rattle.stripes.proofs.Saved.{saved_byte-same}
use Rattle.stripes.proofs.Undetermined.{determined-erased}
use Rattle.model.specs.Grid.{layout_of}
use Rattle.model.specs.declared.Size.{Size}
use Rattle.model.proofs.Grid.{layout-disks}
use Rattle.tally.specs.Tally.{Passed, Table}
use Rattle.parts.specs.Ways.{SideOf}
use Rattle.sums.specs.Held.{Held}
use Rattle.sums.specs.Cut.{in_part, cut_sum}
use Rattle.save.specs.Saving.{saved_if}
use Rattle.survivors.proofs.Parts.{cut_is}

-- The array with the determined disks below k saved.
unfoldable pub saved_below : Layout → Stretch → List ℕ → (e : ℕ → Bool) → (k : ℕ) → List ℕ
saved_below L x a e k = changed x a (λ d p. cond (below k (determined L e) d) (saved_byte L x e a d p) (byte x a d p))

-- ---- one disk

-- The array holds a block for each disk of the layout.
pub sized_as : (z : Size) (base : ℕ) {x : Stretch} {a : List ℕ} → Held z x a → length a ≡ (layout_of z base).disks * x.block
sized_as z base {x} held = held.sized ∙ ap (λ (n : ℕ). n * x.block) (sym (layout-disks z base))

-- A test from its bit.
bit-one : (b : Bool) → eqb (bit b) 1 ≡ b
unfolding bit
bit-one true = refl
bit-one false = refl

module _ {L : Layout} (two : TwoStripes L) (x : Stretch) (inside : x.offset + x.width ≤ x.block) (e : ℕ → Bool) (a : List ℕ)
    (sized : length a ≡ L.disks * x.block) (d : ℕ) where
  -- It is not determined, and nothing changes;
  pub saved-not : a ≡ saved_if L x a e d false
  unfolding saved_if
  saved-not = changed_self x inside L.disks a sized _ (λ i p l h. rw (and-false (eqb i d)))

  -- or it gets the sum over its side, the stripes that the others join with its lower one.
  module _ (side : List ℕ) (marked : SideOf L e d side) where
    on_side_lem : (s : ℕ) → s < L.stripe_bound → in_part side 1 s ≡ joined L (without e d) s (lower L d)
    on_side_lem s l = ap (λ (n : ℕ). eqb n 1) (marked s l) ∙ bit-one (joined L (without e d) s (lower L d))

    pub saved_by : {b : List ℕ}
        → b ≡ changed x a (λ i p. cond (eqb i d) (cut_sum L x e (in_part side 1) a p) (byte x a i p)) → b ≡ saved_if L x a e d true
    unfolding saved_if saved_byte
    saved_by is =
        is
        ∙ changed_ext x inside L.disks a sized _ _
        (λ i p k h. ap₂ (λ (t : Bool) (v : ℕ). cond t v (byte x a i p)) (sym (and-true (eqb i d))) (cut_is two x e (without e d) side 1 (lower L d) on_side_lem a p))

-- ---- one after another

-- A number of which the test fails is not among those below the next.
last_of : (t : ℕ → Bool) (k : ℕ) → t k ≡ false → below (k + 1) t k ≡ false
unfolding below
last_of t k off = rw off (and-false (ltb k (k + 1)))

module _ (L : Layout) (x : Stretch) (inside : x.offset + x.width ≤ x.block) (e : ℕ → Bool) (a : List ℕ) (sized : length a ≡ L.disks * x.block) where
  saved-at : (k d p : ℕ) → d < L.disks → p < x.width
      → byte x (saved_below L x a e k) d p ≡ cond (below k (determined L e) d) (saved_byte L x e a d p) (byte x a d p)
  unfolding saved_below
  saved-at k d p l h = byte-changed x inside L.disks a sized _ d p l h

  -- The survivors stay.
  survivors-stay : (k : ℕ) → Agree L x e a (saved_below L x a e k)
  survivors-stay k d l off p h =
      sym (saved-at k d p l h
      ∙ ap (λ (b : Bool). cond b (saved_byte L x e a d p) (byte x a d p))
      (by_cases (λ (t : Bool). t ≡ false) (below k (determined L e) d)
      (λ q. sym (determined-erased L e d (is_below k (determined L e) d q).1) ∙ off) (λ q. refl)))

  pub below_none : a ≡ saved_below L x a e 0
  unfolding saved_below
  below_none = changed_self x inside L.disks a sized _ (λ d p l h. rw (below-not 0 (determined L e) d zero-le))

  pub below_next : (k : ℕ) (r : Bool) → r ≡ determined L e k → saved_if L x (saved_below L x a e k) e k r ≡ saved_below L x a e (k + 1)
  unfolding saved_if saved_below
  below_next k r is = changed-again x inside L.disks a sized _ _ _ (λ d p l h. go d p l h (eqb d k) refl)
    where
      before : List ℕ
      before = saved_below L x a e k

      -- The disk itself is the last of those below the next number.
      own : (p : ℕ) → k < L.disks → p < x.width → (t : Bool) → r ≡ t
          → cond r (saved_byte L x e before k p) (byte x before k p)
          ≡ cond (below (k + 1) (determined L e) k) (saved_byte L x e a k p) (byte x a k p)
      own p l h true q =
          rw (q, below_is (k + 1) (determined L e) k (omega arith) (sym is ∙ q)) (sym (saved_byte-same L x e a before (survivors-stay k) k p h))
      own p l h false q =
          rw (q, last_of (determined L e) k (sym is ∙ q))
          (saved-at k k p l h ∙ ap (λ (b : Bool). cond b (saved_byte L x e a k p) (byte x a k p)) (below-not k (determined L e) k (omega arith)))

      go : (d p : ℕ) → d < L.disks → p < x.width → (t : Bool) → eqb d k ≡ t
          → cond (t && r) (saved_byte L x e before k p) (byte x before d p)
          ≡ cond (below (k + 1) (determined L e) d) (saved_byte L x e a d p) (byte x a d p)
      go d p l h true q =
          subst
          (λ (i : ℕ). i < L.disks → cond r (saved_byte L x e before k p) (byte x before i p)
          ≡ cond (below (k + 1) (determined L e) i) (saved_byte L x e a i p) (byte x a i p))
          (sym (eqb-true d k q)) (λ m. own p m h r refl) l
      go d p l h false q =
          saved-at k d p l h
          ∙ ap (λ (b : Bool). cond b (saved_byte L x e a d p) (byte x a d p))
          (ap (λ (f : ℕ → Bool). f d) (below_last k (determined L e)) ∙ without_other (below (k + 1) (determined L e)) k d (eqb-false d k q))

  -- In the end all are saved.
  pub below_end : (k : ℕ) → ((d : ℕ) → k ≤ d → e d ≡ false) → saved_below L x a e k ≡ saved L x a e
  unfolding saved_below saved determined
  below_end k out =
      ap (λ (f : ℕ → Bool). changed x a (λ d p. cond (f d) (saved_byte L x e a d p) (byte x a d p)))
      (below_all k (determined L e) (λ d l. rw (out d l)))

-- The determined disks below k are saved in b, and they are `number`.
pub record Rest (L : Layout) (x : Stretch) (work a : List ℕ) (k : ℕ) (b : List ℕ) (number : ℕ) : Type 0 where
  pub counted : number ≡ count k (determined L (erasures work))
  pub array : b ≡ saved_below L x a (erasures work) k

-- A disk that is present is not determined.
present : (L : Layout) (e : ℕ → Bool) (d : ℕ) → e d ≡ false → determined L e d ≡ false
unfolding determined
present L e d off = rw off

module _ {L : Layout} {x : Stretch} {work a : List ℕ} (inside : x.offset + x.width ≤ x.block) (sized : length a ≡ L.disks * x.block) where
  pub rest-none : Rest L x work a 0 a 0
  unfolding count
  rest-none = record { counted = refl; array = below_none L x inside (erasures work) a sized }

  module _ {k : ℕ} {b : List ℕ} {number : ℕ} (rest : Rest L x work a k b number) where
    pub rest-few : number ≤ k
    rest-few = let e = rest.counted in let few = count_le k (determined L (erasures work)) in omega arith

    -- One erased disk more.
    pub rest-next : {r : Bool} → r ≡ determined L (erasures work) k
        → {b' : List ℕ} → b' ≡ saved_if L x b (erasures work) k r
        → {next : ℕ} → ((r ≡ true) × (next ≡ number + 1)) ⊎ ((r ≡ false) × (next ≡ number)) → Rest L x work a (k + 1) b' next
    unfolding count bit
    rest-next {r} is saves came =
        let before = rest.counted in
        record {
          counted =
              rw add-one
              (⊎_elim (λ w. let now = ap bit (sym is ∙ w.0) in let more = w.1 in omega arith)
              (λ w. let now = ap bit (sym is ∙ w.0) in let same = w.1 in omega arith) came);
          array =
              saves ∙ ap (λ (l : List ℕ). saved_if L x l (erasures work) k r) rest.array
              ∙ below_next L x inside (erasures work) a sized k r is;
        }

    module _ {stripes : List ℕ} (t : Table L work stripes) where
      -- Disks that are present are passed over.
      pub rest_over : {d : ℕ} → Passed work k d → Rest L x work a d b number
      unfolding saved_below
      rest_over {d} p =
          let none : (i : ℕ) → k ≤ i → i < d → determined L (erasures work) i ≡ false = λ i l w. present L (erasures work) i (p.none i l w) in
          record {
            counted = rest.counted ∙ sym (count_over (determined L (erasures work)) k d p.after none);
            array =
                rest.array
                ∙ ap (λ (f : ℕ → Bool). changed x a (λ i q. cond (f i) (saved_byte L x (erasures work) a i q) (byte x a i q)))
                (sym (below_over k d (determined L (erasures work)) p.after none));
          }

      -- In the end all are counted and saved.
      pub rest_all : length work ≤ k
          → (number ≡ count L.disks (determined L (erasures work))) × (b ≡ saved L x a (erasures work))
      rest_all end = (
        rest.counted
            ∙ count_over (determined L (erasures work)) L.disks k (let fits = t.disks_fit in omega arith)
            (λ i l w. present L (erasures work) i (t.inside i l)),
        rest.array ∙ below_end L x inside (erasures work) a sized k (λ d l. let fits = t.disks_fit in t.inside d (omega arith)),
      )
