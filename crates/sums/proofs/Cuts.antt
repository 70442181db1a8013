-- Lists of the survivors of which just one stripe is among some stripes, and sums over the disks that a list names.
-- Assumes nothing.
use mathlib.Core.Path.{◌≡◌, refl, sym, ◌∙◌, ap, ap₂, subst, fun_ext}
use mathlib.Core.Bool.{Bool, true, false, cond, not, ◌&&◌, and-false, true≢false}
use mathlib.Core.List.{List}
use Prim.Native.Nat.{ℕ, ◌+◌, ◌*◌, ◌≤◌, ◌<◌}
use native.Mathlib.Nat.{le_refl, not-suc-le-zero}
use native.Mathlib.Numerals.{add-one}
use native.Mathlib.Omega.{arith}
use borrow.Author.Count.{below_more}
use lib.Dec.{eqb}
use lib.ListN.{length, get_or, set}
use lib.Seq.{get_or-set_same, get_or-set_other}
use Rattle.stripes.specs.Fold.{◌⊕◌, xsum, gate, every, count, bit, total}
use Rattle.stripes.specs.System.{Layout, TwoStripes, other_than, byte, sum_over, changed}
use Rattle.stripes.specs.Joined.{crosses}
use Rattle.stripes.specs.declared.Stretch.{Stretch}
use Rattle.model.specs.Grid.{layout_of, disks, disk_at}
use Rattle.model.specs.declared.Size.{Size}
use Rattle.stripes.proofs.Xor.{⊕_assoc, ⊕-zero}
use Rattle.stripes.proofs.Fold.{and_both, xsum_ext, xsum-zero, every_ext, count_le, gate-zero}
use Rattle.stripes.proofs.Counts.{count_injects}
use Rattle.stripes.proofs.Degree.{total_upto, count_upto, on-bound}
use Rattle.stripes.proofs.Ends.{crosses-from, cut_sum_lem, cut-count}
use Rattle.stripes.proofs.Walk.{besides}
use Rattle.model.proofs.Grid.{layout-disks, disk-below}
use Rattle.layout.specs.Stripe.{Numbered, has_disks, run_disk, disks_on, place_on}
use Rattle.layout.specs.declared.stripe.Run.{Run}
use Rattle.layout.proofs.Runs.{RunOf, run_of, place_at, some-disk, no_disk, numbered_two}
use Rattle.zeros.specs.Stored.{stored}
use Rattle.xor.specs.Picked.{Chosen, Beside, picked, picked_cancelled, picked_filled}
use Rattle.sums.specs.Held.{Held}
use Rattle.sums.specs.Cut.{in_cut, cut_over, cut_sum, cut_on, cut_over_on, Survivors, over_list, Listed, AddedBy}
use Rattle.sums.proofs.Blocks.{stretch_within, stored_stretch}

-- ---- one disk more at the end of a list
over_next : (l : List ℕ) (n d : ℕ) → n < length l → (f : ℕ → ℕ) → over_list (set l n d) (n + 1) f ≡ over_list l n f ⊕ f d
unfolding xsum
over_next l n d h f =
    rw add-one
    (ap₂ (λ (x y : ℕ). x ⊕ y) (xsum_ext n (λ k b. ap f (get_or-set_other l n k d 0 (λ q. omega arith)))) (ap f (get_or-set_same l n d 0 h)))

-- Of the disks `at 0`, `at 1`, .. , `at (k - 1)`, those of which the test holds are listed behind the first `have` numbers of a list.
abbrev pub Behind : Layout → (e : ℕ → Bool) → List ℕ → ℕ → (t : ℕ → Bool) → (at : ℕ → ℕ) → ℕ → List ℕ → ℕ → Type 0
Behind L e before have t at k l n =
    Listed L e l n (have + count k (λ j. t (at j))) (λ f. over_list before have f ⊕ xsum k (λ j. gate (t (at j)) (f (at j))))

module _ (L : Layout) (e : ℕ → Bool) (before : List ℕ) (have : ℕ) (t : ℕ → Bool) (at : ℕ → ℕ) where
  pub behind-none : Survivors L e before have → Behind L e before have t at 0 before have
  unfolding count xsum
  behind-none s = record { few = omega arith; survivors = s; summed = λ f. sym (⊕-zero _) }

  module _ (k : ℕ) (l : List ℕ) (n : ℕ) (b : Behind L e before have t at k l n) where
    pub behind_skip : t (at k) ≡ false → Behind L e before have t at (k + 1) l n
    unfolding count xsum gate bit
    behind_skip fails =
        let few = b.few in
        record {
          few = rw (add-one k, fails) (omega arith);
          survivors = b.survivors;
          summed = λ f. b.summed f ∙ rw (add-one k, fails, ⊕-zero);
        }

    pub behind-next : t (at k) ≡ true → n < length l → at k < L.disks → e (at k) ≡ false
        → Behind L e before have t at (k + 1) (set l n (at k)) (n + 1)
    unfolding count xsum gate bit
    behind-next holds room inside present =
        let few = b.few in
        record {
          few = rw (add-one k, holds) (omega arith);
          survivors =
              below_more _ n (λ j h. rw (get_or-set_other l n j (at k) 0 (λ q. omega arith)) (b.survivors j h))
              (rw (get_or-set_same l n (at k) 0 room) (inside, present));
          summed = λ f.
              over_next l n (at k) room f ∙ ap (λ (v : ℕ). v ⊕ f (at k)) (b.summed f)
              ∙ rw (add-one k, holds) (⊕_assoc _ _ _);
        }

-- ---- the disks of one stripe
module _ (z : Size) (base : ℕ) (e some : ℕ → Bool) (s : ℕ) where
  -- What the loop over a run needs: the disks of the run are those of the stripe, and each with its other stripe has a number.
  pub record Along (run : Run) : Type 0 where
    pub disk : (k : ℕ) → k < run.count → run_disk run k < (layout_of z base).disks
    pub other : (k : ℕ) → k < run.count → other_than s ((layout_of z base).through (run_disk run k)) < (layout_of z base).stripe_bound
    pub test : (k : ℕ) → k < run.count
        → (not (e (run_disk run k)) && not (some (other_than s ((layout_of z base).through (run_disk run k)))))
        ≡ in_cut (layout_of z base) e some (run_disk run k)
    pub most : count run.count (λ k. in_cut (layout_of z base) e some (run_disk run k))
        ≤ cut_on (layout_of z base) e some s
    pub sums : (f : ℕ → ℕ)
        → xsum run.count (λ k. gate (in_cut (layout_of z base) e some (run_disk run k)) (f (run_disk run k)))
        ≡ cut_over_on (layout_of z base) e some f s

  along : Numbered z base → some s ≡ true → (run : Run) (place : ℕ → ℕ) → RunOf z base s run place → Along run
  unfolding cut_on gate
  along numbered here run place r =
      let L : Layout = layout_of z base in
      let same = layout-disks z base in
      let two = numbered_two numbered in
      let inside : (k : ℕ) → k < run.count → run_disk run k < L.disks = λ k h. let b = r.inside k h in omega arith in
      record {
        disk = inside;
        other = λ k h.
            on-bound L two (run_disk run k) (inside k h) _ (besides L two (run_disk run k) (inside k h) s (r.here k h)).lies;
        test = λ k h.
            ap (λ (t : Bool). not (e (run_disk run k)) && t)
            (sym (crosses-from L two some (run_disk run k) (inside k h) s (r.here k h) here));
        most =
            rw here
            (count_injects run.count L.disks _ _ (run_disk run)
            (λ k h t. (inside k h, and_both t (r.here k h)))
            (λ i j h l t u q. sym (place_at z base s run place r i h) ∙ ap place q ∙ place_at z base s run place r j l));
        sums = λ f. rw here (sym (r.summed _));
      }

  pub run_along : Numbered z base → some s ≡ true → has_disks z base s ≡ true → (run : Run) → run ≡ disks_on z base s → Along run
  run_along numbered here held run run_is =
      let (d, l, o) = some-disk z base s held in
      along numbered here run (λ d. place_on z base d s)
      (subst (λ (run : Run). RunOf z base s run (λ d. place_on z base d s)) (sym run_is) (run_of z base numbered.above d s l o))

  module _ (before : List ℕ) (have : ℕ) where
    -- Where nothing is to be added, nothing is.
    pub stripe-none : Survivors (layout_of z base) e before have
        → ((f : ℕ → ℕ) → cut_over_on (layout_of z base) e some f s ≡ 0)
        → AddedBy (layout_of z base) e some s before have before have
    stripe-none survivors none = record { few = omega arith; survivors = survivors; summed = λ f. sym (rw (none f) (⊕-zero _)) }

    module _ (run : Run) (r : Along run) (k : ℕ) (l : List ℕ) (n : ℕ)
        (b : Behind (layout_of z base) e before have (in_cut (layout_of z base) e some) (run_disk run) k l n) where
      -- There is room for one disk more,
      pub stripe-room : (len : ℕ) → have + cut_on (layout_of z base) e some s ≤ len → k < run.count
          → in_cut (layout_of z base) e some (run_disk run k) ≡ true → n < len
      unfolding count bit
      stripe-room len fits h holds =
          let t : ℕ → Bool = λ j. in_cut (layout_of z base) e some (run_disk run j) in
          let one : count (k + 1) t ≡ count k t + 1 = rw (add-one k, holds) in
          let upto = count_upto (k + 1) run.count t (omega arith) in
          let most = r.most in
          let few = b.few in
          omega arith

      -- and after the last one they are those of the stripe.
      pub stripe_all : k ≡ run.count → AddedBy (layout_of z base) e some s before have l n
      stripe_all end =
          let few = rw end at b.few in
          let most = r.most in
          record {
            few = omega arith;
            survivors = b.survivors;
            summed = λ f. b.summed f ∙ ap (λ (v : ℕ). over_list before have f ⊕ v) (rw end (r.sums f));
          }

  -- Nothing is to be added by a stripe outside the part, and by a number on which no disk lies.
  pub outside_none : some s ≡ false → (f : ℕ → ℕ) → cut_over_on (layout_of z base) e some f s ≡ 0
  unfolding gate
  outside_none outside f = rw outside

  pub empty_none : has_disks z base s ≡ false → (f : ℕ → ℕ) → cut_over_on (layout_of z base) e some f s ≡ 0
  unfolding sum_over gate
  empty_none empty f =
      let same = layout-disks z base in
      ap (gate (some s))
      (xsum-zero (layout_of z base).disks (λ d l.
      ap (λ (t : Bool). gate t (gate (in_cut (layout_of z base) e some d) (f d))) (no_disk z base s empty d (omega arith))))
      ∙ gate-zero (some s)

-- ---- the stripes of a part
gate_twice : (a b : Bool) (v : ℕ) → gate b (gate (a && b) v) ≡ gate (a && b) v
unfolding gate
gate_twice a true v = refl
gate_twice a false v = sym (ap (λ (t : Bool). gate t v) (and-false a))

module _ (L : Layout) (e some : ℕ → Bool) where
  pub cut-none : (l : List ℕ) → Listed L e l 0 (total 0 (cut_on L e some)) (λ f. xsum 0 (cut_over_on L e some f))
  unfolding total xsum
  cut-none l = record { few = le_refl 0; survivors = λ k h. absurd (not-suc-le-zero h); summed = λ f. refl }

  pub cut-next : (s : ℕ) (l r : List ℕ) (n more : ℕ) → Listed L e l n (total s (cut_on L e some)) (λ f. xsum s (cut_over_on L e some f))
      → AddedBy L e some s l n r more
      → Listed L e r more (total (s + 1) (cut_on L e some)) (λ f. xsum (s + 1) (cut_over_on L e some f))
  unfolding total xsum
  cut-next s l r n more before added =
      let few = before.few in
      let most = added.few in
      record {
        few = rw (add-one s) (omega arith);
        survivors = added.survivors;
        summed = λ f. added.summed f ∙ rw (add-one s) (ap (λ (v : ℕ). v ⊕ cut_over_on L e some f s) (before.summed f));
      }

  module _ (two : TwoStripes L) where
    -- All stripes together bring no more disks than there are.
    cut-few : total L.stripe_bound (cut_on L e some) ≤ L.disks
    unfolding cut_on
    cut-few = let all = cut-count L two some (λ d. not (e d)) in let most = count_le L.disks (in_cut L e some) in omega arith

    pub cut-room : (s n : ℕ) → s < L.stripe_bound → n ≤ total s (cut_on L e some) → n + cut_on L e some s ≤ L.disks
    unfolding total
    cut-room s n h few =
        let one : total (s + 1) (cut_on L e some) ≡ total s (cut_on L e some) + cut_on L e some s = rw (add-one s) in
        let upto = total_upto (s + 1) L.stripe_bound (cut_on L e some) (omega arith) in
        let all = cut-few in
        omega arith

    -- What crosses, counted where it crosses only.
    pub cut_all : (l : List ℕ) (n len : ℕ) → Listed L e l n (total L.stripe_bound (cut_on L e some)) (λ f. xsum L.stripe_bound (cut_over_on L e some f))
        → L.disks ≤ len → Listed L e l n len (cut_over L e some)
    cut_all l n len b room =
        let few = b.few in
        let all = cut-few in
        record {
          few = omega arith;
          survivors = b.survivors;
          summed = λ f. b.summed f ∙ cut_sum_lem L two some _ ∙ xsum_ext L.disks (λ d h. gate_twice (not (e d)) (crosses L some d) (f d));
        }

-- ---- what the list picks of an array

-- The stretch of disk 0 lies within it.
pub cut-start : (z : Size) (x : Stretch) (a : List ℕ) → Held z x a → x.offset + x.width ≤ length a
unfolding disk_at
cut-start z x a held =
    let some = disk-below z 0 0 (omega arith) (omega arith) in
    let room = stretch_within x held.inside (disks z) a held.sized 0 (omega arith) in
    omega arith

module _ (z : Size) (base : ℕ) (x : Stretch) (a : List ℕ) (held : Held z x a) (e some : ℕ → Bool) (list : List ℕ) (n : ℕ)
    (b : Listed (layout_of z base) e list n (length list) (cut_over (layout_of z base) e some)) where
  picked-byte : (p : ℕ) → picked a (x.offset + p) x.block list n ≡ cut_sum (layout_of z base) x e some a p
  unfolding picked cut_sum byte
  picked-byte p =
      xsum_ext n (λ k h. ap (λ (i : ℕ). get_or a i 0) (omega arith)) ∙ b.summed (λ d. get_or a (d * x.block + (x.offset + p)) 0)

  within : (d : ℕ) → d < (layout_of z base).disks → x.offset + d * x.block + x.width ≤ length a
  within d h =
      let same = layout-disks z base in
      let room = stretch_within x held.inside (disks z) a held.sized d (omega arith) in
      omega arith

  pub cut-chosen : Chosen a x.offset x.block list n x.width
  cut-chosen = record { listed = b.few; within = λ k h. within (get_or list k 0) (b.survivors k h).0 }

  pub cut-cancelled : picked_cancelled x.width a x.offset x.block list n ≡ every x.width (λ p. eqb (cut_sum (layout_of z base) x e some a p) 0)
  unfolding picked_cancelled
  cut-cancelled = every_ext x.width (λ p h. ap (λ (v : ℕ). eqb v 0) (picked-byte p))

  module _ (d : ℕ) (below : d < disks z) (erased : e d ≡ true) where
    pub cut_beside : Beside a x.offset x.block list n d x.width
    cut_beside =
        let same = layout-disks z base in
        let inside = held.inside in
        record {
          chosen = cut-chosen;
          room = within d (omega arith);
          apart = omega arith;
          other = λ k h q. true≢false (sym erased ∙ ap e (sym q) ∙ (b.survivors k h).1);
        }

    pub cut-filled : picked_filled x.width a x.offset x.block list n d
        ≡ changed x a (λ i p. cond (eqb i d) (cut_sum (layout_of z base) x e some a p) (byte x a i p))
    unfolding picked_filled
    cut-filled =
        let at : x.offset + d * x.block ≡ d * x.block + x.offset = omega arith in
        ap (λ (at : ℕ). stored a at x.width (λ i. picked a (x.offset + i) x.block list n)) at
        ∙ stored_stretch x held.inside (disks z) a held.sized d below _
        ∙ ap (changed x a) (fun_ext (λ i. fun_ext (λ p. ap (λ (v : ℕ). cond (eqb i d) v (byte x a i p)) (picked-byte p))))
