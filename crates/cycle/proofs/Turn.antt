-- The turns of a trace in any stripe system whose disks lie on two stripes each: what is listed so far, and where it stands.
-- Assumes nothing.
use mathlib.Core.Path.{◌≡◌, refl, sym, ◌∙◌, ap, ap₂, subst}
use mathlib.Core.Bool.{Bool, true, cond, ◌&&◌}
use mathlib.Core.List.{List, [], ◌∷◌, ◌++◌, append_assoc, append-nil}
use Prim.Native.Nat.{ℕ, suc, ◌+◌, ◌-◌, ◌≤◌, ◌<◌, zero-le}
use native.Mathlib.Nat.{sub-zero}
use native.Mathlib.Omega.{arith}
use borrow.Author.Tests.{eq-eqb, ne_eqb, le-leb}
use lib.Dec.{leb}
use lib.ListN.{length, set as put, length-append}
use Rattle.stripes.specs.System.{Layout, TwoStripes, other_than, first_of}
use Rattle.stripes.specs.Repair.{Entry}
use Rattle.stripes.specs.Erased.{erasures}
use Rattle.stripes.specs.Cycle.{Paired, partner, trace, lowest_of, cycle_of}
use Rattle.model.specs.Grid.{layout_of, disks}
use Rattle.model.specs.declared.Size.{Size}
use Rattle.stripes.proofs.Fold.{lowest_is, lowest_found}
use Rattle.stripes.proofs.Degree.{on-bound}
use Rattle.stripes.proofs.Walk.{Step, next, partner_is, partner-inside, next_step}
use Rattle.stripes.proofs.Trace.{cycle_of_lem}
use Rattle.model.proofs.Grid.{layout-disks, disks-bound, size_fits_lem}
use Rattle.model.proofs.Loop.{loop_fits}
use Rattle.layout.specs.Stripe.{Numbered}
use Rattle.layout.proofs.Runs.{numbered_two, stripes_few}
use Rattle.entries.specs.Listed.{word_of, listed}
use Rattle.entries.proofs.Words.{listed-length, listed_put}
use Rattle.tally.specs.Tally.{Table, next_erased}
use Rattle.tally.proofs.Counted.{erased-inside}
use Rattle.cycle.proofs.Search.{either_low, lies}

-- ---- one step of the definition
module _ (L : Layout) (c : ℕ → Bool) (first k : ℕ) (r : Entry) where
  trace-goes : (partner L c r ≡ first → ⊥) → trace L c first (suc k) r ≡ r ∷ trace L c first k (next L c r)
  unfolding trace next
  trace-goes n = ap (λ (b : Bool). r ∷ cond b [] (trace L c first k (next L c r))) (ne_eqb (partner L c r) first n)

  trace-closes : partner L c r ≡ first → trace L c first (suc k) r ≡ r ∷ []
  unfolding trace next
  trace-closes e = ap (λ (b : Bool). r ∷ cond b [] (trace L c first k (next L c r))) (eq-eqb (partner L c r) first e)

-- ---- what is traced

-- A set of disks, two on each stripe touched, with their stripes in a table; cycle and numbers fit a list of words.
pub record Traced (L : Layout) (set stripes : List ℕ) : Type 0 where
  pub two : TwoStripes L
  pub table : Table L set stripes
  pub paired : Paired L (erasures set)
  pub first : next_erased set 0 ≡ lowest_of L (erasures set)
  pub erased : erasures set (next_erased set 0) ≡ true
  pub disks_fit : L.disks ≤ 65536
  pub stripes_fit : L.stripe_bound ≤ 65536
  pub cycle_fits : length (cycle_of L (erasures set)) ≤ 32

-- The lower of two stripes is listed first.
pub pair_rises : {L : Layout} → TwoStripes L → {d a b : ℕ} → d < L.disks → L.through d ≡ a ∷ b ∷ [] → a < b
pair_rises two {d} {a} {b} inside here =
    let both = two.two d inside in
    let l : two.low d ≡ a = cc in
    let h : two.high d ≡ b = cc in
    let order = two.order d inside in
    omega arith

-- The first disk of the set is the lowest of the layout's disks in it.
first_is : (L : Layout) (set : List ℕ) → L.disks ≤ length set → lowest_of L (erasures set) < L.disks
    → (next_erased set 0 ≡ lowest_of L (erasures set)) × (erasures set (lowest_of L (erasures set)) ≡ true)
unfolding next_erased lowest_of
first_is L set fits some =
    let low = lowest_is L.disks (erasures set) in
    let each : (i : ℕ) → (leb 0 i && erasures set i) ≡ erasures set i = λ i. ap (λ (b : Bool). b && erasures set i) (le-leb 0 i zero-le) in (
      sym (lowest_found (length set) _ _ (omega arith) (λ i b. each i ∙ low.none i b) (each _ ∙ low.found some)),
      low.found some,
    )

-- So it is of the layout of a size.
pub traced : (z : Size) (base : ℕ) (set stripes : List ℕ) → Numbered z base → Table (layout_of z base) set stripes
    → Paired (layout_of z base) (erasures set) → lowest_of (layout_of z base) (erasures set) < disks z → Traced (layout_of z base) set stripes
traced z base set stripes n table paired some =
    let same = layout-disks z base in
    let few = disks-bound z (size_fits_lem z n.fits) in
    let low : lowest_of (layout_of z base) (erasures set) < (layout_of z base).disks = omega arith in
    let (first, erased) = first_is (layout_of z base) set table.disks_fit low in
    record {
      two = numbered_two n;
      table = table;
      paired = paired;
      first = first;
      erased = ap (erasures set) first ∙ erased;
      disks_fit = omega arith;
      stripes_fit = let c = stripes_few n in omega arith;
      cycle_fits = loop_fits z base n.above (erasures set) _ (cycle_of_lem (layout_of z base) (numbered_two n) (erasures set) paired _ low erased) n.fits;
    }

-- ---- the turns

-- What a trace of a set lists in at most n turns from a step on.
abbrev onward : Layout → List ℕ → ℕ → Entry → List Entry
onward L set n r = trace L (erasures set) (lowest_of L (erasures set)) n r

-- After k turns the first k steps are listed, and the trace goes on with the step r.
pub record Turn (L : Layout) (set list : List ℕ) (r : Entry) (k : ℕ) : Type 0 where
  pub whole : cycle_of L (erasures set) ≡ listed list k ++ onward L set (L.stripe_bound - k) r
  pub step : Step L (erasures set) r

module _ {L : Layout} {set stripes : List ℕ} (g : Traced L set stripes) where
  -- It begins at the lowest disk, along its lower stripe.
  pub turn_first : (list : List ℕ) {d a b : ℕ} → d ≡ next_erased set 0 → L.through d ≡ a ∷ b ∷ []
      → Turn L set list (record { disk = d; stripe = a }) 0
  unfolding cycle_of first_of listed
  turn_first list {d} {a} {b} at here =
      let erased : erasures set d ≡ true = ap (erasures set) at ∙ g.erased in
      record {
        whole =
            ap₂ (onward L set) (sym (sub-zero L.stripe_bound))
            (ap (λ (i : ℕ). record { disk = i; stripe = first_of (L.through i) }) (sym (at ∙ g.first))
            ∙ ap (λ (t : ℕ). record { disk = d; stripe = t }) (ap first_of here));
        step = record { disk = erased-inside g.table d erased; inside = erased; lies = lies L d a here (either_low a a b refl) };
      }

  module _ {list : List ℕ} {r : Entry} {k : ℕ} (t : Turn L set list r k) where
    -- After the last turn nothing is left to list.
    pub turn_ends : L.stripe_bound ≤ k → cycle_of L (erasures set) ≡ listed list k
    unfolding trace
    turn_ends l =
        let none : L.stripe_bound - k ≡ 0 = omega arith in
        t.whole ∙ ap (λ (n : ℕ). listed list k ++ onward L set n r) none ∙ append-nil (listed list k)

    -- The disk that follows.
    pub turn_some : partner L (erasures set) r < L.disks
    turn_some = (partner_is L (erasures set) g.paired r t.step).inside

    pub turn_erased : {d : ℕ} → d ≡ partner L (erasures set) r → erasures set d ≡ true
    turn_erased at = ap (erasures set) at ∙ partner-inside L (erasures set) g.paired r t.step

    module _ (l : k < L.stripe_bound) (room : 32 ≤ length list) where
      goes_on : cycle_of L (erasures set) ≡ listed list k ++ onward L set (suc (L.stripe_bound - (k + 1))) r
      goes_on =
          let one : L.stripe_bound - k ≡ suc (L.stripe_bound - (k + 1)) = omega arith in
          t.whole ∙ ap (λ (n : ℕ). listed list k ++ onward L set n r) one

      -- The step fits the list.
      pub turn_fits : (k < length list) × ((r.disk < 65536) × (r.stripe < 65536))
      unfolding trace
      turn_fits =
          let a = listed-length list k in
          let few = g.cycle_fits in
          let b = g.disks_fit in
          let d = t.step.disk in
          let c = g.stripes_fit in
          let s = on-bound L g.two r.disk t.step.disk r.stripe t.step.lies in
          (omega (arith, simp length-append at (ap length goes_on)), (omega arith, omega arith))

      -- A turn lists its step,
      module _ {new : List ℕ} (is-new : new ≡ put list k (word_of r.disk r.stripe)) {d : ℕ} (at : d ≡ partner L (erasures set) r) where
        written : listed new (k + 1) ≡ listed list k ++ (r ∷ [])
        written =
            let (a, (b, c)) = turn_fits in
            ap (λ (m : List ℕ). listed m (k + 1)) is-new ∙ listed_put list k r.disk r.stripe a b c

        -- and is the last where it leads back to the first disk.
        pub turn_closes : d ≡ next_erased set 0 → cycle_of L (erasures set) ≡ listed new (k + 1)
        turn_closes e =
            goes_on
            ∙ ap (λ (w : List Entry). listed list k ++ w)
            (trace-closes L (erasures set) (lowest_of L (erasures set)) (L.stripe_bound - (k + 1)) r (sym at ∙ e ∙ g.first))
            ∙ sym written

        -- Else the next one follows.
        pub turn_next : (d ≡ next_erased set 0 → ⊥) → (s : ℕ) {w : List ℕ} → L.through d ≡ w → s ≡ other_than r.stripe w
            → Turn L set new (record { disk = d; stripe = s }) (k + 1)
        unfolding next
        turn_next apart s here along =
            let onto : next L (erasures set) r ≡ record { disk = d; stripe = s } =
            ap (λ (i : ℕ). record { disk = i; stripe = other_than r.stripe (L.through i) }) (sym at)
            ∙ ap (λ (n : ℕ). record { disk = d; stripe = n }) (ap (other_than r.stripe) here ∙ sym along) in
            record {
              whole =
                  goes_on
                  ∙ ap (λ (w : List Entry). listed list k ++ w)
                  (trace-goes L (erasures set) (lowest_of L (erasures set)) (L.stripe_bound - (k + 1)) r (λ e. apart (at ∙ e ∙ sym g.first)))
                  ∙ sym (append_assoc (listed list k) (r ∷ []) _)
                  ∙ ap₂ (λ (w : List Entry) (q : Entry). w ++ onward L set (L.stripe_bound - (k + 1)) q) (sym written) onto;
              step = subst (Step L (erasures set)) onto (next_step L (erasures set) g.paired r t.step g.two);
            }

-- What a list that has the cycle answers.
pub answers : {w : List Entry} (list : List ℕ) (k : ℕ) → w ≡ listed list k → (k ≡ length w) × (listed list k ≡ w)
answers list k e = (sym (ap length e ∙ listed-length list k), sym e)
