-- What one call of rebuild says of another turn.
-- Assumes nothing.
use mathlib.Core.Path.{◌≡◌, refl, sym, ◌∙◌, ap}
use mathlib.Core.Bool.{Bool, true, false, cond, not, ◌&&◌, true≢false}
use mathlib.Core.List.{List}
use mathlib.Core.Logic.{⊎_elim}
use Rattle.std.specs.Prelude.{Result, Ok, Err}
use Prim.Native.Nat.{ℕ, zero, suc, ◌+◌, ◌*◌, ◌-◌, ◌/◌, ◌≤◌, ◌<◌}
use native.Mathlib.Nat.{mul_comm, mul-suc, le-mul_of_pos_right}
use native.Mathlib.Numerals.{add-one}
use native.Mathlib.Omega.{arith}
use borrow.Author.Tests.{lt-ltb, le-ltb, ltb-true, eq-eqb, ne_eqb, eqb-true, eqb-false}
use lib.Dec.{ltb, eqb}
use lib.ListN.{length, take, length-take}
use Rattle.stripes.specs.Fold.{count, total}
use Rattle.stripes.specs.System.{Layout, whole}
use Rattle.stripes.specs.Erased.{erasures}
use Rattle.stripes.specs.Undetermined.{lost}
use Rattle.stripes.specs.Repair.{Entry, repairs, fatal}
use Rattle.stripes.specs.Smallest.{shown_cycle}
use Rattle.stripes.specs.Sectors.{sectored, at_position, sector_repairs, fatal_position}
use Rattle.stripes.proofs.Fold.{same_test, by_cases, and_left, and_right, lt_or_le, count-some, count_found}
use Rattle.stripes.proofs.Peel.{repairs_peels}
use Rattle.stripes.proofs.Positions.{length-rising, fatal-sectors}
use Rattle.model.specs.Grid.{size_fits, block_fits, sector_fits, map_bytes, map_fits}
use Rattle.model.specs.Sheet.{narrow, repair_sheets}
use Rattle.model.specs.Plan.{sheet_layout, loss_outcome, cycle_sheets, loss_sheets}
use Rattle.model.specs.Turn.{Turn, clear, accepted, unfinished, loss_told, contradiction, repairs_made, turn_repairs, contradicts, turn_of, repair_count}
use Rattle.model.specs.Rebuild.{rebuild_refusal, rebuild_turn}
use Rattle.model.specs.declared.Size.{Size}
use Rattle.model.specs.Outcome.{Outcome}
use Rattle.model.specs.Outcome.{Repairs, Fatal, Refused}
use Rattle.model.specs.declared.answer.Verdict.{Verdict}
use Rattle.model.specs.declared.answer.Verdict.TheVariants as Found
use Rattle.model.proofs.Accept.{BuffersFit, rebuild_fits, buffers_fit}
use Rattle.model.proofs.Demand3.{rebuild_accepted, rebuild_refused, sectors-number}
use Rattle.model.proofs.Grid.{rows-below, map-length, sectors-some, sectors-bound}
use Rattle.model.proofs.Limits.{grid-repairs-bound}
use Rattle.model.proofs.SheetRow.{length-repair_sheets, length-blank_sheets, length-cycle_sheets}
use Rattle.model.proofs.Turns.{turn_length, turn_map}
use Rattle.model.specs.Series.{positions, turn_bytes}
use Rattle.model.specs.declared.answer.Refusal.{Refusal}
use Rattle.model.specs.Answers.{verdict_of, outcome_of}
use Rattle.series.specs.Total.{Total, next_total}
use Rattle.tally.specs.Tally.{next_erased}
use Rattle.tally.proofs.Scanned.{next_erased_lem, next_passed}

-- ---- a sector that is erased
pub some-erased : (m : List ℕ) {d : ℕ} → d ≡ next_erased m 0 → ltb d (length m) ≡ ltb 0 (count (length m) (erasures m))
some-erased m {d} found =
    same_test (ltb d (length m)) (ltb 0 (count (length m) (erasures m)))
    (λ h.
    let l = ltb-true d (length m) h in
    lt-ltb 0 (count (length m) (erasures m)) (count-some (length m) (erasures m) d l (next_erased_lem m 0 found l)))
    (λ h.
    let (i, l, is) = count_found (length m) (erasures m) (ltb-true 0 (count (length m) (erasures m)) h) in
    lt-ltb d (length m)
    (⊎_elim (λ (q : i < d). absurd (true≢false (sym is ∙ (next_passed m 0 found (omega arith)).none i (omega arith) q))) (λ q. omega arith)
    (lt_or_le i d)))

-- ---- the positions of a turn
module _ (B w : ℕ) where
  -- Where block and sector are taken, they are those of the block; else there is one. There are at most 4,096.
  pub positions_taken : block_fits B ≡ true → sector_fits B w ≡ true → positions B w ≡ B / w
  unfolding positions
  positions_taken block sector = rw (block, sector)

  pub positions-one : (block_fits B && sector_fits B w) ≡ false → positions B w ≡ 1
  unfolding positions
  positions-one other = rw other

  pub positions-bound : (1 ≤ positions B w) × (positions B w ≤ 4096)
  positions-bound =
      by_cases (λ (b : Bool). (1 ≤ positions B w) × (positions B w ≤ 4096)) (block_fits B && sector_fits B w)
      (λ h.
      let block = and_left (block_fits B) (sector_fits B w) h in
      let sector = and_right (block_fits B) (sector_fits B w) h in
      let (low, high) = sectors-bound (B / w) (sectors-some B w block sector) in
      let is = positions_taken block sector in
      (omega arith, omega arith))
      (λ h. let is = positions-one h in (omega arith, omega arith))

-- No turn makes as many repairs as its sheets have c bytes: then the number of all stays as small as the bytes of all.
module _ (c n : ℕ) where
  pub sum_small : (made more limit : ℕ) → made ≤ c * n → more ≤ c → c * (n + 1) < limit → made + more < limit
  sum_small made more limit few most room = let next = ap (λ (i : ℕ). c * i) (add-one n) ∙ mul-suc c n in omega arith

  pub number_small : (limit : ℕ) → 1 ≤ c → c * (n + 1) < limit → n + 1 < limit
  number_small limit some room = let least = le-mul_of_pos_right (n + 1) some in let same = mul_comm c (n + 1) in omega arith

-- ---- answers

-- What code answers in place of a number of repairs is none.
pub unrepaired : (r : Result Verdict Refusal) → ((number : ℕ) → r ≡ Ok (Found.Repairs number) → ⊥)
    → (number : ℕ) → outcome_of r ≡ Repairs number → ⊥
unfolding outcome_of verdict_of
unrepaired (Ok (Found.Repairs c)) other number e = other c refl
unrepaired (Ok (Found.Fatal l p)) other number e = let clash : ◌≡◌ {A = ℕ} 0 1 = cc in omega arith
unrepaired (Err k) other number e = let clash : ◌≡◌ {A = ℕ} 0 1 = cc in omega arith

not-repairs : (o : Outcome) → ((number : ℕ) → o ≡ Repairs number → ⊥) → (accepted o ≡ false) × (repair_count o ≡ 0)
unfolding accepted repair_count
not-repairs (Repairs c) other = absurd (other c refl)
not-repairs (Fatal c p) other = (refl, refl)
not-repairs (Refused k) other = (refl, refl)

-- A number that is not 0 is above it.
positive : (n : ℕ) → not (eqb n 0) ≡ ltb 0 n
positive n =
    ⊎_elim (λ (l : 0 < n). rw (ne_eqb n 0 (λ e. omega arith), lt-ltb 0 n l)) (λ (l : n ≤ 0). rw (eq-eqb n 0 (omega arith), le-ltb 0 n l))
    (lt_or_le 0 n)

-- ---- the sheets of a turn, and its repairs
few_each : (f : ℕ → ℕ) → ((i : ℕ) → f i ≤ 31) → (n : ℕ) → total n f ≤ 31 * n
unfolding total
few_each f few zero = omega arith
few_each f few (suc n) = let before = few_each f few n in let here = few n in omega arith

module _ (z : Size) (n : ℕ) where
  abbrev L : Layout
  L = sheet_layout z

  -- At each position there are at most 31 repairs.
  few-repairs : size_fits z ≡ true → (e : ℕ → Bool) → length (sector_repairs n L e) ≤ 31 * n
  unfolding sector_repairs
  few-repairs size e =
      rw (length-rising n (λ p. repairs L (at_position n p e)) n)
      (few_each _ (λ p.
      let c : ℕ → Bool = at_position n p e in
      let few = grid-repairs-bound z narrow.base (rows-below z size) size c (repairs L c) (repairs_peels L c) in
      omega arith) n)

  loss-sheets-length : (e : ℕ → Bool) → length (loss_sheets n L narrow e) ≡ 98 * n
  unfolding loss_sheets
  loss-sheets-length e =
      let p : ℕ = fatal_position n L e in
      let cycle : List Entry = shown_cycle L (at_position n p e) in
      by_cases (λ (b : Bool). length (cond b (cycle_sheets narrow n p cycle) (repair_sheets narrow n (sector_repairs n L e))) ≡ 98 * n) (ltb p n)
      (λ h. length-cycle_sheets narrow n p cycle) (λ h. length-repair_sheets narrow n (sector_repairs n L e))

  turn-sheets-length : (w k : ℕ) (a m : List ℕ) → length (turn_of n L narrow (whole w) k a m).sheets ≡ 98 * n
  unfolding turn_of loss_told contradiction repairs_made
  turn-sheets-length w k a m = go (fatal (sectored n L) (erasures m)) (contradicts (sectored n L) (whole w) a m (turn_repairs n L k m))
    where
      made : Turn
      made = repairs_made n L narrow (whole w) a m (turn_repairs n L k m)

      go : (f g : Bool) → length (cond f (loss_told n L narrow a m) (cond g (contradiction n narrow (whole w) a m) made)).sheets ≡ 98 * n
      go true g = loss-sheets-length (erasures m)
      go false true = length-blank_sheets narrow n
      go false false = length-repair_sheets narrow n (turn_repairs n L k m)

-- ---- a call
module _ (z : Size) (B w : ℕ) (a m s : List ℕ) (k : ℕ) where
  abbrev S : Layout
  S = sectored (B / w) (sheet_layout z)

  abbrev t : Turn
  t = rebuild_turn z B w a m s k

  -- A turn that is refused is the last.
  pub refused_last : (d : Total) (o : Outcome) → o ≡ t.answer → ((number : ℕ) → o ≡ Repairs number → ⊥)
      → record { last = o; turns = d.turns + 1; made = d.made; left = 0 } ≡ next_total S d t
  unfolding unfinished
  refused_last d o is other =
      let (no_number, none) = not-repairs o other in
      let over : unfinished S t ≡ false = ap (λ (b : Bool). b && not (clear S t.map)) (ap accepted (sym is) ∙ no_number) in
      let same : repair_count t.answer ≡ 0 = ap repair_count (sym is) ∙ none in
      let sum : d.made ≡ d.made + repair_count t.answer = omega arith in
      rw over (λ i. record { last = is i; turns = d.turns + 1; made = sum i; left = 0 })

  -- What holds of a call that ends as a turn does, and of one that is refused, holds of each.
  by-refusal : (P : Turn → Type 0)
      → (rebuild_refusal z B w a m s k ≡ 0 → P (turn_of (B / w) (sheet_layout z) narrow (whole w) k a m))
      → P (record { answer = Refused (rebuild_refusal z B w a m s k); array = a; map = m; sheets = s }) → P t
  by-refusal P taken refused =
      by_cases (λ (b : Bool). P t) (eqb (rebuild_refusal z B w a m s k) 0)
      (λ q. let ok = eqb-true (rebuild_refusal z B w a m s k) 0 q in rw (rebuild_accepted z B w a m s k ok) (taken ok))
      (λ q. rw (rebuild_refused z B w a m s k (eqb-false (rebuild_refusal z B w a m s k) 0 q)) refused)

  fits : rebuild_refusal z B w a m s k ≡ 0 → BuffersFit z B w a m s
  fits ok = buffers_fit z B w a m s (rebuild_fits z B w a m s k ok).0

  -- The sheets keep their length, and so do the array and the map.
  pub sheets-kept : length t.sheets ≡ length s
  sheets-kept =
      by-refusal (λ (u : Turn). length u.sheets ≡ length s) (λ ok. turn-sheets-length z (B / w) w k a m ∙ sym (fits ok).long) refl

  pub array-kept : length t.array ≡ length a
  array-kept =
      by-refusal (λ (u : Turn). length u.array ≡ length a) (λ ok. turn_length (B / w) (sheet_layout z) narrow (whole w) k a m) refl

  pub map-kept : length t.map ≡ length m
  map-kept =
      by-refusal (λ (u : Turn). length u.map ≡ length m)
      (λ ok.
      let len : ℕ = map_bytes z (B / w) in
      let map = (fits ok).map in
      map-length len (turn_of (B / w) (sheet_layout z) narrow (whole w) k a m).map
      (turn_map (B / w) (sheet_layout z) narrow (whole w) k a m len map)
      ∙ sym (map-length len m map))
      refl

  -- Where it answers with repairs, nothing was refused,
  taken : (c : ℕ) → Repairs c ≡ t.answer → rebuild_refusal z B w a m s k ≡ 0
  taken c =
      by-refusal (λ (u : Turn). Repairs c ≡ u.answer → rebuild_refusal z B w a m s k ≡ 0) (λ ok is. ok)
      (λ is. let clash : ◌≡◌ {A = ℕ} 0 1 = cc in absurd (omega arith))

  module _ (c : ℕ) (is : Repairs c ≡ t.answer) where
    -- the map still fits,
    map_fits_lem : map_fits (map_bytes z (B / w)) t.map ≡ true
    map_fits_lem =
        rw (rebuild_accepted z B w a m s k (taken c is))
        (turn_map (B / w) (sheet_layout z) narrow (whole w) k a m (map_bytes z (B / w)) (fits (taken c is)).map)

    -- the repairs are fewer than the sheets have bytes,
    pub few-made : c ≤ turn_bytes B w
    unfolding turn_of loss_told loss_outcome contradiction repairs_made turn_repairs
    few-made = go (fatal S (erasures m)) refl (contradicts S (whole w) a m (turn_repairs (B / w) (sheet_layout z) k m)) refl
      where
        given : Repairs c ≡ (turn_of (B / w) (sheet_layout z) narrow (whole w) k a m).answer
        given = is ∙ ap (λ (u : Turn). u.answer) (rebuild_accepted z B w a m s k (taken c is))

        go : (f : Bool) → fatal S (erasures m) ≡ f
            → (g : Bool) → contradicts S (whole w) a m (turn_repairs (B / w) (sheet_layout z) k m) ≡ g → c ≤ turn_bytes B w
        go true p g h =
            let q : ℕ = fatal_position (B / w) (sheet_layout z) (erasures m) in
            let found : Repairs c ≡ Fatal (lost (sheet_layout z) (at_position (B / w) q (erasures m))) q =
            given ∙ (rw (p, sym (fatal-sectors (B / w) (sheet_layout z) (erasures m)) ∙ p)) in
            let clash : ◌≡◌ {A = ℕ} 0 1 = cc in
            absurd (omega arith)
        go false p true q =
            let found : Repairs c ≡ Refused 7 = given ∙ (rw (p, q)) in
            let clash : ◌≡◌ {A = ℕ} 0 1 = cc in
            absurd (omega arith)
        go false p false q =
            let found : Repairs c ≡ Repairs (length (take k (sector_repairs (B / w) (sheet_layout z) (erasures m)))) = given ∙ (rw (p, q)) in
            let number : c ≡ length (take k (sector_repairs (B / w) (sheet_layout z) (erasures m))) = cc in
            let f = fits (taken c is) in
            let few = few-repairs z (B / w) f.array.size (erasures m) in
            let least = length-take k (sector_repairs (B / w) (sheet_layout z) (erasures m)) in
            let own = positions_taken B w f.array.block f.sector in
            omega arith

    -- and another turn is to come exactly if a sector is erased.
    goes_on : {n : List ℕ} → n ≡ t.map → unfinished S t ≡ ltb 0 (count (length n) (erasures n))
    unfolding unfinished accepted clear
    goes_on {n} map_is =
        let long : length t.map ≡ S.disks =
        map-length (map_bytes z (B / w)) t.map map_fits_lem ∙ sym (sectors-number z narrow.base (B / w)) in
        rw (sym (ap accepted is), map_is, long) (positive (count S.disks (erasures t.map)))

    pub repairs-counted : (d : Total) (o : Outcome) → o ≡ t.answer → (n : List ℕ) → n ≡ t.map
        → (b : Bool) → b ≡ ltb 0 (count (length n) (erasures n))
        → record { last = o; turns = d.turns + 1; made = d.made + c; left = cond b (d.left - 1) 0 } ≡ next_total S d t
    unfolding repair_count
    repairs-counted d o answer n map_is b more =
        let same : b ≡ unfinished S t = more ∙ sym (goes_on map_is) in
        λ i. record { last = answer i; turns = d.turns + 1; made = d.made + repair_count (is i); left = cond (same i) (d.left - 1) 0 }

  -- So no answer counts more.
  pub few-counted : repair_count t.answer ≤ turn_bytes B w
  unfolding repair_count
  few-counted = go t.answer refl
    where
      go : (o : Outcome) → o ≡ t.answer → repair_count o ≤ turn_bytes B w
      go (Repairs c) is = few-made c is
      go (Fatal c p) is = omega arith
      go (Refused c) is = omega arith
