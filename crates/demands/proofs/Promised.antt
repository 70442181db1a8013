-- Demand 3 of what the turns come to.
-- Assumes nothing.
use mathlib.Core.Path.{◌≡◌, refl, sym, ◌∙◌, ap, subst}
use mathlib.Core.List.{List, ◌∷◌, map}
use Prim.Native.Nat.{ℕ, zero, suc, ◌*◌, ◌-◌, ◌/◌, ◌≤◌}
use native.Mathlib.Nat.{mul_comm, mul-suc, div-mul-le_self, le-div_iff_mul-le}
use native.Mathlib.Omega.{arith}
use lib.ListN.{length, take, drop, length-take, length-drop}
use lib.Seq.{length-take-le}
use mathlib.Core.Bool.{false}
use Rattle.stripes.specs.Fold.{count}
use Rattle.stripes.specs.System.{Bytes}
use Rattle.stripes.specs.Erased.{erasures}
use Rattle.stripes.specs.Repair.{fatal}
use Rattle.stripes.specs.Sectors.{sectored}
use Rattle.model.specs.Grid.{map_bytes}
use Rattle.model.specs.Refusal.{refusal}
use Rattle.model.specs.Sheet.{narrow, parts_in}
use Rattle.model.specs.Plan.{plan_tests, plan_outcome, plan_sheets, sheet_layout}
use Rattle.model.specs.Turn.{Turn, last_of, made_by}
use Rattle.model.specs.Rebuild.{rebuild_refusal, rebuild_turns}
use Rattle.model.specs.Edition.{superparity}
use Rattle.model.specs.Demand3.{Results, Demand3}
use Rattle.model.specs.declared.Size.{Size}
use Rattle.model.specs.Outcome.{Outcome}
use Rattle.model.proofs.Accept.{BuffersFit, rebuild_fits, buffers_fit}
use Rattle.model.proofs.Demand3.{Sheets, demand3}
use Rattle.model.specs.Series.{turn_bytes, start, turns_in, Written}
use Rattle.series.specs.Total.{Total, total_of}
use Rattle.series.proofs.Ends.{positions_taken, positions-bound}

-- Parts of c bytes, those of the sheets of p positions, of a buffer that is long enough.
parts_long : (c p n : ℕ) (s : List ℕ) → c ≡ 98 * p → c * n ≤ length s → Sheets p (parts_in c n s)
unfolding parts_in
parts_long c p zero s is long = tt
parts_long c p (suc n) s is long =
    let more = mul-suc c n in
    let left : length (drop c s) ≡ length s - c = length-drop c s in
    (length-take-le c s (omega arith) ∙ is, parts_long c p n (drop c s) is (omega arith))

parts_number : (c n : ℕ) (s : List ℕ) → length (parts_in c n s) ≡ n
unfolding parts_in
parts_number c zero s = refl
parts_number c (suc n) s = ap suc (parts_number c n (drop c s))

module _ (z : Size) (B w k : ℕ) (a m d s : List ℕ) (small : Bytes a) (ok : rebuild_refusal z B w a m (take (turn_bytes B w) s) k ≡ 0) where
  abbrev bytes : ℕ
  bytes = turn_bytes B w

  fits : BuffersFit z B w a m (take bytes s)
  fits = buffers_fit z B w a m (take bytes s) (rebuild_fits z B w a m (take bytes s) k ok).0

  own : bytes ≡ 98 * (B / w)
  own = ap (λ (n : ℕ). 98 * n) (positions_taken B w fits.array.block fits.sector)

  -- The buffer has sheets for a turn.
  some : length s / bytes ≡ suc (length s / bytes - 1)
  some =
      let long = fits.long in
      let least = length-take bytes s in
      let is = own in
      let one = (positions-bound B w).0 in
      let has = (le-div_iff_mul-le {k = bytes} {x = 1} {y = length s} (omega arith)).1 (omega arith) in
      omega arith

  abbrev all : List Turn
  all = turns_in z B w k s a m

  -- The sheets are enough for the repairs of a loss that is not fatal, where a block has n sectors.
  abbrev Enough : ℕ → Type 0
  Enough n =
      fatal (sectored n (sheet_layout z)) (erasures m) ≡ false → count (map_bytes z n) (erasures m) ≤ length s / bytes * k

  -- What plan gives, and what comes of some turns.
  abbrev results_of : List Turn → Results
  results_of ts =
      record {
        planned = plan_outcome z (B / w) m d;
        plan_sheets = plan_sheets z (B / w) m d;
        last = (last_of (start a m) ts).answer;
        made = made_by ts;
        array = (last_of (start a m) ts).array;
        map = (last_of (start a m) ts).map;
        sheets = map (λ (t : Turn). t.sheets) ts;
      }

  promised-all : refusal (plan_tests z (B / w) m (length d)) ≡ 0 → Enough (B / w)
      → Demand3 (B / w) (superparity z narrow.base) narrow w k a m (results_of all)
  unfolding superparity parts_in
  promised-all planOk enough =
      let number : ℕ = length s / bytes in
      let j : ℕ = number - 1 in
      let is : take bytes s ∷ parts_in bytes j (drop bytes s) ≡ parts_in bytes number s = sym (ap (λ (i : ℕ). parts_in bytes i s) some) in
      let length_is : length (take bytes s ∷ parts_in bytes j (drop bytes s)) ≡ number = ap length is ∙ parts_number bytes number s in
      let left : length (drop bytes s) ≡ length s - bytes = length-drop bytes s in
      let within = div-mul-le_self (length s) bytes in
      let same = mul_comm number bytes ∙ ap (λ (i : ℕ). bytes * i) some ∙ mul-suc bytes j in
      let room : bytes * j ≤ length (drop bytes s) = omega arith in
      subst
      (λ (ss : List (List ℕ)). Demand3 (B / w) (superparity z narrow.base) narrow w k a m (results_of (rebuild_turns z B w k ss a m)))
      is
      (demand3 z B w k a m d (take bytes s) (parts_in bytes j (drop bytes s)) small planOk ok (parts_long bytes (B / w) j (drop bytes s) own room)
      (λ fine. rw length_is (enough fine)) (start a m))

  -- Of what the calls give, where a block has n sectors.
  pub promised : (planned : Outcome) (draft : List ℕ) (r : Total) (b m₂ s₂ : List ℕ)
      → r ≡ total_of (start a m) all → b ≡ (last_of (start a m) all).array → m₂ ≡ (last_of (start a m) all).map → Written bytes s s₂ all
      → (n : ℕ) → n ≡ B / w → planned ≡ plan_outcome z n m d → draft ≡ plan_sheets z n m d
      → refusal (plan_tests z n m (length d)) ≡ 0 → Enough n
      → Demand3 n (superparity z narrow.base) narrow w k a m
      (record {
        planned = planned;
        plan_sheets = draft;
        last = r.last;
        made = r.made;
        array = b;
        map = m₂;
        sheets = parts_in bytes r.turns s₂;
      })
  promised planned draft r b m₂ s₂ e array map written n cut =
      let sheets = ap (λ (t : Total). parts_in bytes t.turns s₂) e ∙ written.sheets in
      subst
      (λ (n : ℕ).
      planned ≡ plan_outcome z n m d → draft ≡ plan_sheets z n m d → refusal (plan_tests z n m (length d)) ≡ 0 → Enough n
      → Demand3 n (superparity z narrow.base) narrow w k a m
      (record { planned = planned; plan_sheets = draft; last = r.last; made = r.made; array = b; map = m₂; sheets = parts_in bytes r.turns s₂ }))
      (sym cut)
      (λ p q planOk enough.
      subst (Demand3 (B / w) (superparity z narrow.base) narrow w k a m)
      (sym (λ i. record { planned = p i; plan_sheets = q i; last = (e i).last; made = (e i).made; array = array i; map = map i; sheets = sheets i }))
      (promised-all planOk enough))
