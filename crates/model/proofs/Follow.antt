-- Follow: what comes of sheets from elsewhere, in the words of paper 01, for every size, block, sector, map, sheets and array. What the
-- paper says of cards is said of sectors. Where a theorem asks for `Bytes a`, the array's numbers are bytes, as those of a lent buffer are.
-- Assumes nothing.
use mathlib.Core.Path.{◌≡◌, refl, sym, ◌∙◌, ap}
use mathlib.Core.Bool.{Bool, true, false, cond, true≢false}
use mathlib.Core.Logic.{◌↔◌, ◌⊎◌, inl, inr}
use mathlib.Core.List.{List, ◌++◌}
use Prim.Native.Nat.{ℕ, ◌*◌, ◌/◌, ◌≤◌, ◌<◌}
use native.Mathlib.Omega.{arith}
use borrow.Author.Tests.{ne_eqb, eqb-true, eqb-false, ltb-true}
use lib.Dec.{eqb}
use lib.ListN.{length, get_or}
use Rattle.stripes.specs.Fold.{count}
use Rattle.stripes.specs.System.{Layout, whole, Codeword, Bytes, consistent}
use Rattle.stripes.specs.Erased.{erasures, Agree, Belongs}
use Rattle.stripes.specs.Repair.{Entry, fatal, rebuilt, zeroed, clears}
use Rattle.stripes.specs.Sectors.{sectored, at_position, rising, sector_repairs, of_position, fatal_position}
use Rattle.stripes.specs.Smallest.{shown_cycle}
use Rattle.model.specs.Grid.{map_bytes, size_fits}
use Rattle.model.specs.Refusal.{refusal}
use Rattle.model.specs.Sheet.{Format, narrow, sheets_bytes, sheet_at, repair_sheets}
use Rattle.model.specs.Chain.{within, chain_refusal, no_leftovers, Leftover, clean_refusal, chain_entries}
use Rattle.model.specs.Plan.{plan_tests, outcome_status, cycle_sheets, loss_sheets, plan_sheets, sheet_layout}
use Rattle.model.specs.Turn.{Turn, loss_told, contradiction, repairs_made, turn_of, whole_rebuild}
use Rattle.model.specs.Rebuild.{buffer_tests, buffer_refusal, rebuild_refusal, rebuild_turn}
use Rattle.model.specs.Follow.{sheets_entries, Usable, sheets_tests, list_tests, follow_tests, follow_status, list_outcome, list_array, follow_outcome, follow_array}
use Rattle.model.specs.declared.Size.{Size}
use Rattle.model.specs.Outcome.{Outcome}
use Rattle.model.specs.Outcome.{Repairs, Refused}
use Rattle.stripes.proofs.Fold.{by_cases, every_at, every_all}
use Rattle.stripes.proofs.Degree.{two_ordered}
use Rattle.stripes.proofs.Restore.{Bounded}
use Rattle.stripes.proofs.Sums.{consistent_iff}
use Rattle.stripes.proofs.Clears.{clears_peels, clears-length, clears-fine, clears-restored, clears_judged, clears-alike}
use Rattle.stripes.proofs.Sectors.{two-sectors}
use Rattle.stripes.proofs.Positions.{clears-rising, order-clears, length-order, fatal-sectors}
use Rattle.model.proofs.Refusal.{refused_first}
use Rattle.model.proofs.Accept.{first_tests, buffers_fit, buffers_passed, plan-fits}
use Rattle.model.proofs.Chain.{clean_exact, Linked, linked_fits}
use Rattle.model.proofs.SheetRow.{length-repair_sheets, length-cycle_sheets, sheet_clean, sheets-list, sectors_fitting, clears_of, sheets-accepted, sheets_numbers, sheets_go_on, sheets_fourteen, cycle_ten}
use Rattle.model.proofs.Contents.{same_whole}
use Rattle.model.proofs.Demand3.{sectors-number, Cut, array-cut, rebuild_whole_lem}

-- The stripe system of the sectors, the repairs that the sheets list, and the number that the sheets get.
abbrev pub sectors : Size → (B w : ℕ) → Layout
sectors z B w = sectored (B / w) (sheet_layout z)

abbrev pub listed : (B w : ℕ) → List ℕ → List Entry
listed B w s = sheets_entries narrow (B / w) s

abbrev pub sheets_refusal : (B w : ℕ) → List ℕ → ℕ
sheets_refusal B w s = refusal (sheets_tests narrow (B / w) s)

-- Follow answers o and leaves the array as b.
abbrev pub Gives : Size → (B w : ℕ) → (a m s : List ℕ) → Outcome → (b : List ℕ) → Type 0
Gives z B w a m s o b = (follow_outcome z B w a m s ≡ o) × (follow_array z B w a m s ≡ b)

-- ---- what follow gives, by its number
module _ (z : Size) (B w : ℕ) (a m s : List ℕ) where
  -- What follow gives where it refuses by k, or where k is 0.
  pub follow_given : (k : ℕ) → follow_status z B w a m s ≡ k
      → Gives z B w a m s (list_outcome k (listed B w s)) (list_array (sectors z B w) (whole w) a m k (listed B w s))
  unfolding follow_outcome follow_array
  follow_given k e = (rw e, rw e)

  pub status_is : outcome_status (follow_outcome z B w a m s) ≡ follow_status z B w a m s
  unfolding follow_outcome outcome_status
  status_is =
      let k = follow_status z B w a m s in
      by_cases (λ (t : Bool). outcome_status (cond t (Repairs (length (listed B w s))) (Refused k)) ≡ k) (eqb k 0)
      (λ e. sym (eqb-true k 0 e)) (λ e. refl)

-- It is 7 in one case only.
seven_only : (q r : Bool) → ◌≡◌ {A = ℕ} (cond q (cond r 0 7) 11) 7 → (q ≡ true) × (r ≡ false)
seven_only true true e = absurd (omega arith)
seven_only true false e = (refl, refl)
seven_only false r e = absurd (omega arith)

-- A list of repairs is not refused by 14,
not_fourteen : (q r : Bool) → ◌≡◌ {A = ℕ} (cond q (cond r 0 7) 11) 14 → ⊥
not_fourteen true true e = omega arith
not_fourteen true false e = omega arith
not_fourteen false r e = omega arith

-- and neither the buffers nor the sheets are by 7.
pub buffers_seven : (z : Size) (B w : ℕ) (a m s : List ℕ) → buffer_refusal z B w a m s ≡ 7 → ⊥
buffers_seven z B w a m s =
    first_tests z B w a m s (λ k. k ≡ 7 → ⊥) (λ e. omega arith) (λ e. omega arith) (λ e. omega arith) (λ e. omega arith) (λ e. omega arith)
    (λ e. omega arith) (λ e. omega arith)

sheets_seven : (B w : ℕ) (s : List ℕ) → sheets_refusal B w s ≡ 7 → ⊥
sheets_seven B w s =
    sheets_numbers narrow (B / w) s (λ k. k ≡ 7 → ⊥) (λ e. omega arith) (λ e. omega arith) (λ e. omega arith) (λ e. omega arith)

-- Rebuild keeps the array where the loss is fatal.
rebuild_kept : (z : Size) (B w : ℕ) (a m t : List ℕ) (k : ℕ) → fatal (sectors z B w) (erasures m) ≡ true
    → (rebuild_turn z B w a m t k).array ≡ a
unfolding rebuild_turn turn_of loss_told
rebuild_kept z B w a m t k lossy =
    rw lossy
    (by_cases
    (λ (u : Bool).
    (cond u (loss_told (B / w) (sheet_layout z) narrow a m)
    (record { answer = Refused (rebuild_refusal z B w a m t k); array = a; map = m; sheets = t })).array
    ≡ a)
    (eqb (rebuild_refusal z B w a m t k) 0) (λ e. refl) (λ e. refl))

-- Where the buffers fit, the array has w bytes for each sector, and the stripes of the sectors lie below the bound.
module _ (z : Size) (B w : ℕ) (a m s : List ℕ) (ok : buffer_refusal z B w a m s ≡ 0) where
  cut : Cut z B w a
  cut = let f = buffers_fit z B w a m s ok in array-cut z B w a f.array f.sector

  sized : length a ≡ (sectors z B w).disks * (whole w).block
  unfolding whole
  sized = cut.long

  bounded : Bounded (sectors z B w)
  bounded = (two_ordered (sectors z B w) (two-sectors (B / w) (sheet_layout z) cut.two)).bounded

-- Usable sheets, position by position.
pub usable_exact : (z : Size) (n : ℕ) (m s : List ℕ)
    → Usable z n m s
    ↔ ((p : ℕ) → p < n
    → (clean_refusal narrow (sheet_at narrow p s) ≡ 0)
    × (clears (sheet_layout z) (at_position n p (erasures m)) (chain_entries narrow (sheet_at narrow p s)) ≡ true))
unfolding sheets_entries
usable_exact z n m s =
    let by = clears-rising n (λ p. chain_entries narrow (sheet_at narrow p s)) (sheet_layout z) (erasures m) in (
      λ (clean, clear) p l. (clean p l, every_at n _ (sym by ∙ clear) p l),
      λ each. (λ p l. (each p l).0, by ∙ every_all n (λ p l. (each p l).1)),
    )

-- ---- paper 01's words
module _ (z : Size) (B w : ℕ) (a m s : List ℕ) where
  -- Follow: 1, 2, 3, 16, 4, 5. They are rebuild's, and nothing changes.
  pub follow_first : (buffer_refusal z B w a m s ≡ 0 → ⊥) → Gives z B w a m s (Refused (buffer_refusal z B w a m s)) a
  unfolding follow_status follow_tests buffer_refusal
  follow_first refused =
      let k = buffer_refusal z B w a m s in
      rw (ne_eqb k 0 refused, ne_eqb k 7 (buffers_seven z B w a m s)) at
      (follow_given z B w a m s k (refused_first (buffer_tests z B w (length a) m (length s)) _ refused))

  -- Otherwise the tests of the sheets decide, 10, 13 and 14, before those of their list.
  follow-order : buffer_refusal z B w a m s ≡ 0
      → follow_status z B w a m s ≡ refusal (sheets_tests narrow (B / w) s ++ list_tests (sectors z B w) (whole w) a m (listed B w s))
  unfolding follow_status follow_tests
  follow-order ok = buffers_passed z B w a m s ok _

  -- Where these let them through, 11 exactly if a step is not an allowed repair or a sector stays erased; else 7 exactly if a stripe's sum
  -- is not zero after the repairs.
  pub follow_listed : buffer_refusal z B w a m s ≡ 0 → sheets_refusal B w s ≡ 0
      → follow_status z B w a m s
      ≡ cond (clears (sectors z B w) (erasures m) (listed B w s))
      (cond (consistent (sectors z B w) (whole w) (rebuilt (sectors z B w) (whole w) a (listed B w s))) 0 7) 11
  unfolding list_tests refusal
  follow_listed ok clean = follow-order ok ∙ sheets_go_on narrow (B / w) s clean _

  -- All numbers but 7 come before any block is changed: after a refusal by a number other than 7 the array is as it was.
  pub follow_refused : (outcome_status (follow_outcome z B w a m s) ≡ 0 → ⊥) → (outcome_status (follow_outcome z B w a m s) ≡ 7 → ⊥)
      → follow_array z B w a m s ≡ a
  unfolding follow_array
  follow_refused some other =
      let status = status_is z B w a m s in
      rw (ne_eqb (follow_status z B w a m s) 0 (λ e. some (status ∙ e)), ne_eqb (follow_status z B w a m s) 7 (λ e. other (status ∙ e)))

  module _ (ok : buffer_refusal z B w a m s ≡ 0) where
    -- 10, 13 and 14, and nothing changes.
    pub follow_unclean : (sheets_refusal B w s ≡ 0 → ⊥) → Gives z B w a m s (Refused (sheets_refusal B w s)) a
    follow_unclean refused =
        let k = sheets_refusal B w s in
        rw (ne_eqb k 0 refused, ne_eqb k 7 (sheets_seven B w s)) at
        (follow_given z B w a m s k (follow-order ok ∙ refused_first (sheets_tests narrow (B / w) s) _ refused))

    -- 14 exactly if 10 and 13 let every sheet through, and on some sheet a byte off the chain is not zero.
    pub follow_fourteen : (outcome_status (follow_outcome z B w a m s) ≡ 14)
        ↔ (((p : ℕ) → p < B / w → chain_refusal narrow (sheet_at narrow p s) ≡ 0)
        × ((p : ℕ) × (p < B / w) × ((i : ℕ) × Leftover narrow (sheet_at narrow p s) i)))
    unfolding outcome_status
    follow_fourteen =
        let k = sheets_refusal B w s in
        let (to, of) = sheets_fourteen narrow (B / w) s in (
          λ e.
              to
              (by_cases (λ (b : Bool). k ≡ 14) (eqb k 0)
              (λ q.
              absurd (not_fourteen (clears (sectors z B w) (erasures m) (listed B w s))
              (consistent (sectors z B w) (whole w) (rebuilt (sectors z B w) (whole w) a (listed B w s)))
              (sym (follow_listed ok (eqb-true k 0 q)) ∙ sym (status_is z B w a m s) ∙ e)))
              (λ q. sym (ap outcome_status (follow_unclean (eqb-false k 0 q)).0) ∙ e)),
          λ some. let fourteen : k ≡ 14 = of some in ap outcome_status (follow_unclean (λ q. omega arith)).0 ∙ fourteen,
        )

    -- 11, and nothing changes.
    pub follow_eleven : sheets_refusal B w s ≡ 0 → clears (sectors z B w) (erasures m) (listed B w s) ≡ false
        → Gives z B w a m s (Refused 11) a
    follow_eleven clean unclear = follow_given z B w a m s 11 (follow_listed ok clean ∙ (rw unclear))

    -- The repairs of usable sheets leave all sums zero exactly if the survivors belong to a sealed array.
    pub follow_judged : Usable z (B / w) m s → Bytes a
        → (consistent (sectors z B w) (whole w) (rebuilt (sectors z B w) (whole w) a (listed B w s)) ≡ true)
        ↔ Belongs (sectors z B w) (whole w) (erasures m) a
    follow_judged (clean, clear) =
        clears_judged (sectors z B w) (bounded z B w a m s ok) w (erasures m) a (sized z B w a m s ok) (listed B w s) clear

    -- If they do, the array becomes that one, and the count of repairs is that of the erased sectors.
    pub follow_restores : Usable z (B / w) m s → (b : List ℕ) → Codeword (sectors z B w) (whole w) b
        → Agree (sectors z B w) (whole w) (erasures m) a b → Gives z B w a m s (Repairs (count (map_bytes z (B / w)) (erasures m))) b
    follow_restores (clean, clear) b word agree =
        let is : rebuilt (sectors z B w) (whole w) a (listed B w s) ≡ b =
        clears-restored (sectors z B w) (bounded z B w a m s ok) w (erasures m) a (sized z B w a m s ok) (listed B w s) clear b word agree in
        let sealed : consistent (sectors z B w) (whole w) (rebuilt (sectors z B w) (whole w) a (listed B w s)) ≡ true =
        ap (consistent (sectors z B w) (whole w)) is ∙ (consistent_iff (sectors z B w) (whole w) b).1 word.sums in
        let accepted = (sheets-accepted narrow (B / w) s).1 clean in
        let (answer, left) = follow_given z B w a m s 0 (follow_listed ok accepted ∙ (rw (clear, sealed))) in
        let number : length (listed B w s) ≡ count (map_bytes z (B / w)) (erasures m) =
        clears-length (sectors z B w) (erasures m) (listed B w s) clear ∙ (rw (sectors-number z narrow.base (B / w))) in
        (answer ∙ ap Repairs number, left ∙ is)

    -- If they belong to none, follow refuses by 7, with zeros in the erased sectors;
    pub follow_seven : Usable z (B / w) m s → Bytes a → (Belongs (sectors z B w) (whole w) (erasures m) a → ⊥)
        → Gives z B w a m s (Refused 7) (zeroed (whole w) a (erasures m))
    follow_seven usable small none =
        let unsealed : consistent (sectors z B w) (whole w) (rebuilt (sectors z B w) (whole w) a (listed B w s)) ≡ false =
        by_cases (λ (t : Bool). t ≡ false) (consistent (sectors z B w) (whole w) (rebuilt (sectors z B w) (whole w) a (listed B w s)))
        (λ e. absurd (none ((follow_judged usable small).0 e))) (λ e. refl) in
        follow_given z B w a m s 7 (follow_listed ok ((sheets-accepted narrow (B / w) s).1 usable.0) ∙ (rw (usable.1, unsealed)))

    -- and it does so just then.
    pub follow_contradicted : Bytes a
        → (outcome_status (follow_outcome z B w a m s) ≡ 7)
        ↔ (Usable z (B / w) m s × (Belongs (sectors z B w) (whole w) (erasures m) a → ⊥))
    unfolding outcome_status
    follow_contradicted small = (
      λ e.
          let k = sheets_refusal B w s in
          let clean : k ≡ 0 =
          by_cases (λ (b : Bool). k ≡ 0) (eqb k 0) (λ q. eqb-true k 0 q)
          (λ q. absurd (sheets_seven B w s (sym (ap outcome_status (follow_unclean (eqb-false k 0 q)).0) ∙ e))) in
          let (clear, unsealed) = seven_only _ _ (sym (follow_listed ok clean) ∙ sym (status_is z B w a m s) ∙ e) in
          let usable : Usable z (B / w) m s = ((sheets-accepted narrow (B / w) s).0 clean, clear) in
          (usable, λ belongs. true≢false (sym ((follow_judged usable small).1 belongs) ∙ unsealed)),
      λ (usable, none). ap outcome_status (follow_seven usable small none).0,
    )

  -- For 7 the erased sectors are zero.
  pub follow_zeros : outcome_status (follow_outcome z B w a m s) ≡ 7 → follow_array z B w a m s ≡ zeroed (whole w) a (erasures m)
  follow_zeros e = (follow_given z B w a m s 7 (sym (status_is z B w a m s) ∙ e)).1

  -- On a map whose loss is fatal follow changes nothing, whatever the sheets, and where it has not refused before, it refuses by 10, 13
  -- or 14, or by 11.
  pub follow_fatal : fatal (sectors z B w) (erasures m) ≡ true
      → (follow_array z B w a m s ≡ a)
      × (buffer_refusal z B w a m s ≡ 0
      → ((sheets_refusal B w s ≡ 0 → ⊥) × (follow_outcome z B w a m s ≡ Refused (sheets_refusal B w s)))
      ⊎ (follow_outcome z B w a m s ≡ Refused 11))
  follow_fatal lossy = go (eqb (buffer_refusal z B w a m s) 0) refl (eqb (sheets_refusal B w s) 0) refl
    where
      go : (u : Bool) → eqb (buffer_refusal z B w a m s) 0 ≡ u → (p : Bool) → eqb (sheets_refusal B w s) 0 ≡ p
          → (follow_array z B w a m s ≡ a)
          × (buffer_refusal z B w a m s ≡ 0
          → ((sheets_refusal B w s ≡ 0 → ⊥) × (follow_outcome z B w a m s ≡ Refused (sheets_refusal B w s)))
          ⊎ (follow_outcome z B w a m s ≡ Refused 11))
      go false e p clean =
          let refused = eqb-false (buffer_refusal z B w a m s) 0 e in ((follow_first refused).1, λ ok. absurd (refused ok))
      go true e false unclean =
          let refused = eqb-false (sheets_refusal B w s) 0 unclean in
          let (answer, kept) = follow_unclean (eqb-true (buffer_refusal z B w a m s) 0 e) refused in (kept, λ ok. inl (refused, answer))
      go true e true clean =
          let unclear =
          by_cases (λ (b : Bool). b ≡ false) (clears (sectors z B w) (erasures m) (listed B w s))
          (λ q. absurd (true≢false (sym lossy ∙ clears-fine (sectors z B w) (erasures m) (listed B w s) q))) (λ q. refl) in
          let (answer, kept) = follow_eleven (eqb-true (buffer_refusal z B w a m s) 0 e) (eqb-true (sheets_refusal B w s) 0 clean) unclear in
          (kept, λ ok. inr answer)

-- Otherwise the array is as after rebuild: follow on s gives the answer and the array of a rebuild without turns. It is so for all
-- usable sheets: in which order sectors are repaired, and by which stripes, counts for nothing.
pub follow_whole_lem : (z : Size) (B w : ℕ) (a m s : List ℕ) → buffer_refusal z B w a m s ≡ 0 → Bytes a → Usable z (B / w) m s
    → let t = whole_rebuild (B / w) (sheet_layout z) narrow (whole w) a m in Gives z B w a m s t.answer t.array
unfolding whole_rebuild repairs_made contradiction
follow_whole_lem z B w a m s ok small (clean, clear) = go (consistent L (whole w) (rebuilt L (whole w) a v)) refl
  where
    L : Layout
    L = sectors z B w

    v : List Entry
    v = sector_repairs (B / w) (sheet_layout z) (erasures m)

    fine : fatal L (erasures m) ≡ false
    fine = clears-fine L (erasures m) (listed B w s) clear

    alike : (consistent L (whole w) (rebuilt L (whole w) a (listed B w s)) ≡ consistent L (whole w) (rebuilt L (whole w) a v))
        × (consistent L (whole w) (rebuilt L (whole w) a v) ≡ true → rebuilt L (whole w) a (listed B w s) ≡ rebuilt L (whole w) a v)
    alike =
        clears-alike L (bounded z B w a m s ok) w (erasures m) a (sized z B w a m s ok) small
        (listed B w s) v clear (order-clears (B / w) (sheet_layout z) (erasures m) fine)

    accepted : sheets_refusal B w s ≡ 0
    accepted = (sheets-accepted narrow (B / w) s).1 clean

    go : (t : Bool) → consistent L (whole w) (rebuilt L (whole w) a v) ≡ t
        → let t = whole_rebuild (B / w) (sheet_layout z) narrow (whole w) a m in Gives z B w a m s t.answer t.array
    go true j =
        let (answer, left) = follow_given z B w a m s 0 (follow_listed z B w a m s ok accepted ∙ (rw (clear, alike.0, j))) in
        let number = clears-length L (erasures m) (listed B w s) clear ∙ sym (length-order (B / w) (sheet_layout z) (erasures m) fine) in
        rw (fine, j) (answer ∙ ap Repairs number, left ∙ alike.1 j)
    go false j = rw (fine, j) (follow_given z B w a m s 7 (follow_listed z B w a m s ok accepted ∙ (rw (clear, alike.0, j))))

-- So follow on s and rebuild on t, with a limit that is no less than the number of erased sectors, give the same answer and the same
-- array. Where the other arguments are refused, they are refused alike.
abbrev pub AsRebuild : Size → (B w : ℕ) → (a m s t : List ℕ) → Type 0
AsRebuild z B w a m s t =
    (k : ℕ) → 0 < k → count (map_bytes z (B / w)) (erasures m) ≤ k
    → Gives z B w a m s (rebuild_turn z B w a m t k).answer (rebuild_turn z B w a m t k).array

pub follow_any : (z : Size) (B w : ℕ) (a m s t : List ℕ) → length s ≡ length t → Bytes a → Usable z (B / w) m s → AsRebuild z B w a m s t
unfolding buffer_refusal
follow_any z B w a m s t long small usable k some enough =
    rw (rebuild_whole_lem z B w a m t k some enough) (go (eqb (buffer_refusal z B w a m t) 0) refl)
  where
    same : buffer_refusal z B w a m s ≡ buffer_refusal z B w a m t
    same = rw long

    go : (u : Bool) → eqb (buffer_refusal z B w a m t) 0 ≡ u
        → let r =
        cond u (whole_rebuild (B / w) (sheet_layout z) narrow (whole w) a m)
        (record { answer = Refused (buffer_refusal z B w a m t); array = a; map = m; sheets = t }) in
        Gives z B w a m s r.answer r.array
    go true e = follow_whole_lem z B w a m s (same ∙ eqb-true (buffer_refusal z B w a m t) 0 e) small usable
    go false e =
        let (answer, left) = follow_first z B w a m s (λ q. eqb-false (buffer_refusal z B w a m t) 0 e (sym same ∙ q)) in
        (answer ∙ ap Refused same, left)

-- It is so for every list of allowed repairs that leaves no sector erased, as the library writes it: each sheet has room for what it lists.
pub follow_list : (z : Size) → size_fits z ≡ true → (B w : ℕ) (a m t : List ℕ) → length t ≡ sheets_bytes narrow (B / w) → Bytes a
    → (v : List Entry) → clears (sectors z B w) (erasures m) v ≡ true → AsRebuild z B w a m (repair_sheets narrow (B / w) v) t
follow_list z size B w a m t long small v clear =
    let n : ℕ = B / w in
    let L : Layout = sheet_layout z in
    let fits = sectors_fitting z size n (erasures m) v (clears_peels (sectored n L) (erasures m) v clear) in
    let lists : listed B w (repair_sheets narrow n v) ≡ rising n (λ p. of_position n p v) n = sheets-list narrow n v (omega arith) fits in
    let clear₂ : clears (sectored n L) (erasures m) (listed B w (repair_sheets narrow n v)) ≡ true =
    ap (clears (sectored n L) (erasures m)) lists ∙ clears-rising n (λ p. of_position n p v) L (erasures m)
    ∙ every_all n (λ p l. clears_of n l L (erasures m) v clear) in
    follow_any z B w a m (repair_sheets narrow n v) t (length-repair_sheets narrow n v ∙ sym long) small
    (sheet_clean narrow n v (omega arith) fits, clear₂)

module _ (z : Size) (B w : ℕ) (a m s₁ t : List ℕ) (planOk : refusal (plan_tests z (B / w) m (length s₁)) ≡ 0)
    (long : length t ≡ sheets_bytes narrow (B / w)) where
  -- So it is for the sheets that plan leaves,
  pub follow_plan : fatal (sectors z B w) (erasures m) ≡ false → Bytes a → AsRebuild z B w a m (plan_sheets z (B / w) m s₁) t
  unfolding plan_sheets loss_sheets
  follow_plan fine small =
      let L : Layout = sheet_layout z in
      rw (planOk, sym (fatal-sectors (B / w) L (erasures m)) ∙ fine)
      (follow_list z (plan-fits z (B / w) m (length s₁) planOk).0 B w a m t long small (sector_repairs (B / w) L (erasures m))
      (order-clears (B / w) L (erasures m) fine))

  -- unless one shows a loop: then neither changes the array, and follow refuses by 10 where rebuild calls the loss fatal.
  pub follow_loop : fatal (sectors z B w) (erasures m) ≡ true
      → (follow_array z B w a m (plan_sheets z (B / w) m s₁) ≡ a) × ((k : ℕ) → (rebuild_turn z B w a m t k).array ≡ a)
      × (buffer_refusal z B w a m t ≡ 0 → follow_outcome z B w a m (plan_sheets z (B / w) m s₁) ≡ Refused 10)
  unfolding plan_sheets loss_sheets buffer_refusal
  follow_loop lossy =
      let n : ℕ = B / w in
      let L : Layout = sheet_layout z in
      let p : ℕ = fatal_position n L (erasures m) in
      let v : List Entry = shown_cycle L (at_position n p (erasures m)) in
      let found = sym (fatal-sectors n L (erasures m)) ∙ lossy in (
        (follow_fatal z B w a m (plan_sheets z n m s₁) lossy).0,
        λ k. rebuild_kept z B w a m t k lossy,
        λ ok.
            let ten : sheets_refusal B w (cycle_sheets narrow n p v) ≡ 10 = cycle_ten narrow n p v (ltb-true p n found) (λ q. omega arith) in
            rw (planOk, found)
            (rw ten at
            (follow_unclean z B w a m (cycle_sheets narrow n p v) (rw (length-cycle_sheets narrow n p v, ← long) ok) (λ q. omega arith)).0),
      )

-- A chain may visit records in any order. The chain of a sheet lists v, and nothing is left over:
pub record ChainLists (f : Format) (s : List ℕ) (v : List Entry) : Type 0 where
  pub kind : get_or s 0 0 ≡ f.repair_kind
  pub numbers : List ℕ
  pub inside : within f.records numbers ≡ true
  pub linked : Linked f s (get_or s 1 0) numbers v
  pub clean : no_leftovers f s ≡ true

-- Sheets whose chains visit any records up to 32 and list allowed repairs that leave no sector erased give what rebuild gives.
pub follow_any_order : (z : Size) (B w : ℕ) (a m s t : List ℕ) → length s ≡ length t → Bytes a
    → (lists : ℕ → List Entry) → ((p : ℕ) → p < B / w → clears (sheet_layout z) (at_position (B / w) p (erasures m)) (lists p) ≡ true)
    → ((p : ℕ) → p < B / w → ChainLists narrow (sheet_at narrow p s) (lists p)) → AsRebuild z B w a m s t
follow_any_order z B w a m s t long small lists clear each =
    follow_any z B w a m s t long small
    ((usable_exact z (B / w) m s).1 (λ p l.
    let c = each p l in
    let (chain, is, numbers) = linked_fits narrow (sheet_at narrow p s) c.numbers (lists p) c.kind c.linked c.inside in
    ((clean_exact narrow (sheet_at narrow p s)).1 (chain, c.clean), rw is (clear p l))))

-- The contents of an erased sector count for nothing: two arrays with the same survivors get the same answer and, from usable
-- sheets, the same array.
pub follow_contents_free : (z : Size) (B w : ℕ) (a b m s : List ℕ) → buffer_refusal z B w a m s ≡ 0 → Bytes a → Bytes b
    → length b ≡ length a → Agree (sectors z B w) (whole w) (erasures m) a b
    → (follow_outcome z B w b m s ≡ follow_outcome z B w a m s) × (Usable z (B / w) m s → follow_array z B w b m s ≡ follow_array z B w a m s)
unfolding buffer_refusal
follow_contents_free z B w a b m s ok small small₂ long same =
    go (eqb (sheets_refusal B w s) 0) refl (clears (sectors z B w) (erasures m) (listed B w s)) refl
  where
    ok₂ : buffer_refusal z B w b m s ≡ 0
    ok₂ = (rw long) ∙ ok

    go : (p : Bool) → eqb (sheets_refusal B w s) 0 ≡ p → (q : Bool) → clears (sectors z B w) (erasures m) (listed B w s) ≡ q
        → (follow_outcome z B w b m s ≡ follow_outcome z B w a m s)
        × (Usable z (B / w) m s → follow_array z B w b m s ≡ follow_array z B w a m s)
    go false unclean q clear =
        let refused = eqb-false (sheets_refusal B w s) 0 unclean in (
          (follow_unclean z B w b m s ok₂ refused).0 ∙ sym (follow_unclean z B w a m s ok refused).0,
          λ usable. absurd (refused ((sheets-accepted narrow (B / w) s).1 usable.0)),
        )
    go true e false unclear =
        let clean = eqb-true (sheets_refusal B w s) 0 e in (
          (follow_eleven z B w b m s ok₂ clean unclear).0 ∙ sym (follow_eleven z B w a m s ok clean unclear).0,
          λ usable. absurd (true≢false (sym usable.1 ∙ unclear)),
        )
    go true e true clear =
        let clean = (sheets-accepted narrow (B / w) s).0 (eqb-true (sheets_refusal B w s) 0 e) in
        let fine = clears-fine (sectors z B w) (erasures m) (listed B w s) clear in
        let equal =
        same_whole (B / w) (sheet_layout z) narrow w (cut z B w a m s ok).width a b m (sized z B w a m s ok) long same fine in
        let (answer, left) = follow_whole_lem z B w a m s ok small (clean, clear) in
        let (answer₂, left₂) = follow_whole_lem z B w b m s ok₂ small₂ (clean, clear) in (
          answer₂ ∙ ap (λ (t : Turn). t.answer) equal ∙ sym answer,
          λ usable. left₂ ∙ ap (λ (t : Turn). t.array) equal ∙ sym left,
        )
