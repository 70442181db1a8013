-- Turns made one after another, with the sheets of a buffer.
-- Assumes nothing.
use mathlib.Core.Path.{◌≡◌, refl, sym, ◌∙◌, ap, ap₂, subst}
use mathlib.Core.Bool.{Bool, true, false, cond}
use mathlib.Core.List.{List, [], ◌∷◌, ◌++◌, map, append_assoc, append-nil}
use Prim.Native.Nat.{ℕ, zero, suc, ◌+◌, ◌*◌, ◌-◌, ◌/◌, ◌≤◌, ◌<◌}
use native.Mathlib.Nat.{zero-add, suc-add, mul-zero, mul-suc, mul_comm, mul-le-mul_left, div-mul-le_self}
use native.Mathlib.Numerals.{add-one}
use native.Mathlib.Omega.{arith}
use lib.ListN.{length, take, drop, length-append, length-drop}
use lib.Seq.{length-take-le, take-nil, take-append-le, drop-append-le, take-take, drop-drop, take_at, drop_at}
use Rattle.stripes.specs.System.{Layout}
use Rattle.stripes.specs.Sectors.{sectored}
use Rattle.model.specs.Sheet.{parts_in}
use Rattle.model.specs.Plan.{sheet_layout}
use Rattle.model.specs.Turn.{Turn, unfinished, turns_by, last_of, repair_count, made_by}
use Rattle.model.specs.Rebuild.{rebuild_turn, rebuild_turns}
use Rattle.model.specs.declared.Size.{Size}
use Rattle.series.proofs.Ends.{sheets-kept, array-kept, map-kept, few-counted}
use Rattle.model.specs.Series.{turn_bytes, start, turns_in, Written}
use Rattle.series.specs.Total.{Total, total_of, next_total}

-- ---- parts of a buffer

-- What is left of the first elements.
drop-take : (c j : ℕ) (s : List ℕ) → drop c (take (c + j) s) ≡ take j (drop c s)
drop-take zero j s = ap (λ (n : ℕ). take n s) (zero-add j)
drop-take (suc c) j [] = ap (drop (suc c)) (take-nil (suc c + j)) ∙ sym (take-nil j)
drop-take (suc c) j (x ∷ xs) = ap (λ (n : ℕ). drop (suc c) (take n (x ∷ xs))) (suc-add c j) ∙ drop-take c j xs

-- Parts of c bytes.
module _ (c : ℕ) where
  next : (n : ℕ) → c * suc n ≡ c + c * n
  next n = omega (arith, mul-suc c n)

  -- One part more.
  parts-snoc : (n : ℕ) (s : List ℕ) → parts_in c (suc n) s ≡ parts_in c n s ++ (take c (drop (c * n) s) ∷ [])
  unfolding parts_in
  parts-snoc zero s = rw (mul-zero c) refl
  parts-snoc (suc n) s =
      ap (λ (ss : List (List ℕ)). take c s ∷ ss)
      (parts-snoc n (drop c s)
      ∙ ap (λ (l : List ℕ). parts_in c n (drop c s) ++ (take c l ∷ [])) (drop-drop (c * n) c s ∙ ap (λ (i : ℕ). drop i s) (sym (next n))))

  -- What stands behind some parts counts for nothing.
  parts-front : (n i : ℕ) (s r : List ℕ) → c * n ≤ i → i ≤ length s → parts_in c n (take i s ++ r) ≡ parts_in c n s
  unfolding parts_in
  parts-front zero i s r few long = refl
  parts-front (suc n) i s r few long =
      let j : ℕ = i - c in
      let more = next n in
      let split : i ≡ c + j = omega arith in
      let own : length (take i s) ≡ i = length-take-le i s long in
      let left : length (drop c s) ≡ length s - c = length-drop c s in
      ap₂ (λ (l : List ℕ) (ss : List (List ℕ)). l ∷ ss)
      (take-append-le c (take i s) r (omega arith) ∙ take-take c i s (omega arith))
      (ap (parts_in c n)
      (drop-append-le c (take i s) r (omega arith)
      ∙ ap (λ (l : List ℕ). l ++ r) (ap (λ (k : ℕ). drop c (take k s)) split ∙ drop-take c j s))
      ∙ parts-front n j (drop c s) r (omega arith) (omega arith))

  -- A part is written behind the first n.
  module _ (n : ℕ) (s v : List ℕ) (long : c * suc n ≤ length s) (own : length v ≡ c) where
    abbrev put : List ℕ
    put = take (c * n) s ++ (v ++ drop (c * n + c) s)

    front : length (take (c * n) s) ≡ c * n
    front = let more = next n in length-take-le (c * n) s (omega arith)

    put-parts : parts_in c (suc n) put ≡ parts_in c n s ++ (v ∷ [])
    put-parts =
        let more = next n in
        parts-snoc n put
        ∙ ap₂ (λ (ss : List (List ℕ)) (l : List ℕ). ss ++ (l ∷ []))
        (parts-front n (c * n) s (v ++ drop (c * n + c) s) (omega arith) (omega arith))
        (ap (take c) (drop_at (take (c * n) s) (v ++ drop (c * n + c) s) (c * n) front) ∙ take_at v (drop (c * n + c) s) c own)

    put_rest : drop (c * suc n) put ≡ drop (c * suc n) s
    put_rest =
        let more = next n in
        let split : c * suc n ≡ c * n + c = omega arith in
        ap (λ (i : ℕ). drop i put) split ∙ sym (drop-drop c (c * n) put)
        ∙ ap (drop c) (drop_at (take (c * n) s) (v ++ drop (c * n + c) s) (c * n) front) ∙ drop_at v (drop (c * n + c) s) c own
        ∙ ap (λ (i : ℕ). drop i s) (sym split)

    put_length : length put ≡ length s
    put_length =
        let more = next n in
        let left : length (drop (c * n + c) s) ≡ length s - (c * n + c) = length-drop (c * n + c) s in
        let all = length-append (take (c * n) s) (v ++ drop (c * n + c) s) in
        let two = length-append v (drop (c * n + c) s) in
        let first = front in
        omega arith

-- ---- turns

-- One turn more.
last_snoc : (before : Turn) (ts : List Turn) (t : Turn) → last_of before (ts ++ (t ∷ [])) ≡ t
unfolding last_of
last_snoc before [] t = refl
last_snoc before (u ∷ us) t = last_snoc u us t

made_snoc : (ts : List Turn) (t : Turn) → made_by (ts ++ (t ∷ [])) ≡ made_by ts + repair_count t.answer
unfolding made_by
made_snoc [] t = omega arith
made_snoc (u ∷ us) t = let up = made_snoc us t in omega arith

sheets_snoc : (ts : List Turn) (t : Turn) → map (λ (u : Turn). u.sheets) (ts ++ (t ∷ [])) ≡ map (λ (u : Turn). u.sheets) ts ++ (t.sheets ∷ [])
sheets_snoc [] t = refl
sheets_snoc (u ∷ us) t = ap (λ (ss : List (List ℕ)). u.sheets ∷ ss) (sheets_snoc us t)

-- Each uses its sheets.
pub fewer : (L : Layout) (d e : Total) (t : Turn) → e ≡ next_total L d t → 0 < d.left → e.left < d.left
fewer L d e t is some = rw (ap (λ (x : Total). x.left) is) (go (unfinished L t) d.left some)
  where
    go : (b : Bool) (j : ℕ) → 0 < j → cond b (j - 1) 0 < j
    go true j h = omega arith
    go false j h = h

-- With sheets of c bytes for each turn.
module _ (z : Size) (B w k c : ℕ) where
  -- Where no other turn is to come, no sheets are used any more.
  stops : (b : Bool) (j : ℕ) (s a m : List ℕ)
      → cond b (rebuild_turns z B w k (parts_in c j s) a m) [] ≡ rebuild_turns z B w k (parts_in c (cond b j 0) s) a m
  unfolding parts_in turns_by
  stops true j s a m = refl
  stops false j s a m = refl

  first_of : (j : ℕ) (s a m : List ℕ) → let u = rebuild_turn z B w a m (take c s) k in
      rebuild_turns z B w k (parts_in c (suc j) s) a m
      ≡ u ∷ rebuild_turns z B w k (parts_in c (cond (unfinished (sectored (B / w) (sheet_layout z)) u) j 0) (drop c s)) u.array u.map
  unfolding parts_in turns_by
  first_of j s a m =
      let u : Turn = rebuild_turn z B w a m (take c s) k in
      ap (λ (rest : List Turn). u ∷ rest) (stops (unfinished (sectored (B / w) (sheet_layout z)) u) j (drop c s) u.array u.map)

  module _ (a₀ m₀ s₀ : List ℕ) where
    -- The turns ts are made, and those that follow are to be made on what they left.
    pub record Progress (ts : List Turn) (d : Total) (a m s : List ℕ) : Type 0 where
      pub bytes : c ≡ turn_bytes B w
      pub follows : rebuild_turns z B w k (parts_in c (length s₀ / c) s₀) a₀ m₀
          ≡ ts ++ rebuild_turns z B w k (parts_in c d.left (drop (c * length ts) s₀)) a m
      pub last : d.last ≡ (last_of (start a₀ m₀) ts).answer
      pub turns : d.turns ≡ length ts
      pub made : d.made ≡ made_by ts
      pub few : d.made ≤ c * d.turns
      pub array : a ≡ (last_of (start a₀ m₀) ts).array
      pub map : m ≡ (last_of (start a₀ m₀) ts).map
      pub written : Written c s₀ s ts
      pub long : (length s ≡ length s₀) × (length a ≡ length a₀) × (length m ≡ length m₀)
      pub room : c * (d.turns + d.left) ≤ length s₀

    -- Before the first.
    pub begins : c ≡ turn_bytes B w
        → Progress [] (record { last = (start a₀ m₀).answer; turns = 0; made = 0; left = length s₀ / c }) a₀ m₀ s₀
    unfolding last_of made_by parts_in
    begins bytes =
        record {
          bytes = bytes;
          follows = rw (mul-zero c) refl;
          last = refl;
          turns = refl;
          made = refl;
          few = omega arith;
          array = refl;
          map = refl;
          written = record { sheets = refl; rest = refl };
          long = (refl, refl, refl);
          room = rw (zero-add (length s₀ / c), mul_comm c (length s₀ / c)) (div-mul-le_self (length s₀) c);
        }

module _ {z : Size} {B w k c : ℕ} {a₀ m₀ s₀ : List ℕ} {ts : List Turn} {d : Total} {a m s : List ℕ}
    (p : Progress z B w k c a₀ m₀ s₀ ts d a m s) where
  -- After the last.
  abbrev Sums : (bytes : ℕ) → List Turn → Type 0
  Sums bytes us =
      (d ≡ total_of (start a₀ m₀) us)
      × ((a ≡ (last_of (start a₀ m₀) us).array) × ((m ≡ (last_of (start a₀ m₀) us).map) × Written bytes s₀ s us))

  pub ends : d.left ≡ 0 → Sums (turn_bytes B w) (turns_in z B w k s₀ a₀ m₀)
  unfolding parts_in turns_by
  ends none =
      let same : rebuild_turns z B w k (parts_in c (length s₀ / c) s₀) a₀ m₀ ≡ ts =
      p.follows ∙ ap (λ (n : ℕ). ts ++ rebuild_turns z B w k (parts_in c n (drop (c * length ts) s₀)) a m) none ∙ append-nil ts in
      subst (λ (i : ℕ). Sums i (rebuild_turns z B w k (parts_in i (length s₀ / i) s₀) a₀ m₀)) p.bytes
      (subst (Sums c) (sym same)
      (λ i. record { last = p.last i; turns = p.turns i; made = p.made i; left = none i }, (p.array, (p.map, p.written))))

  -- One more.
  module _ (some : 0 < d.left) where
    abbrev S : Layout
    S = sectored (B / w) (sheet_layout z)

    abbrev at : ℕ
    at = c * d.turns

    -- Its sheets are the next of the buffer.
    pub inside : at + c ≤ length s
    inside =
        let most = mul-le-mul_left c (let l : suc d.turns ≤ d.turns + d.left = omega arith in l) in
        let more = next c d.turns in
        let room = p.room in
        let long = p.long.0 in
        omega arith

    -- So it may be made.
    pub ready : (d.made ≤ turn_bytes B w * d.turns) × (turn_bytes B w * (d.turns + 1) ≤ length s)
    ready =
        let here = inside in
        let more = ap (λ (i : ℕ). c * i) (add-one d.turns) ∙ next c d.turns in
        subst (λ (i : ℕ). (d.made ≤ i * d.turns) × (i * (d.turns + 1) ≤ length s)) p.bytes (p.few, omega arith)

    behind : c * suc (length ts) ≤ length s
    behind = let here = inside in let more = next c (length ts) in let same = ap (λ (i : ℕ). c * i) p.turns in omega arith

    own-long : length (take c (drop at s)) ≡ c
    own-long =
        let here = inside in
        let left : length (drop at s) ≡ length s - at = length-drop at s in
        length-take-le c (drop at s) (omega arith)

    same-sheets : take c (drop at s) ≡ take c (drop (c * length ts) s₀)
    same-sheets = ap (take c) (ap (λ (i : ℕ). drop (c * i) s) p.turns ∙ p.written.rest)

    abbrev t : Turn
    t = rebuild_turn z B w a m (take c (drop at s)) k

    one_more : (l : List ℕ) → drop c (drop (c * length ts) l) ≡ drop (c * suc (length ts)) l
    one_more l =
        let more : c * length ts + c ≡ c * suc (length ts) = omega (arith, next c (length ts)) in
        drop-drop c (c * length ts) l ∙ ap (λ (i : ℕ). drop i l) more

    -- What follows it.
    then : rebuild_turns z B w k (parts_in c d.left (drop (c * length ts) s₀)) a m
        ≡ t ∷ rebuild_turns z B w k (parts_in c (next_total S d t).left (drop (c * suc (length ts)) s₀)) t.array t.map
    then =
        let some_left : d.left ≡ suc (d.left - 1) = omega arith in
        let rest : drop c (drop (c * length ts) s₀) ≡ drop (c * suc (length ts)) s₀ = one_more s₀ in
        ap (λ (i : ℕ). rebuild_turns z B w k (parts_in c i (drop (c * length ts) s₀)) a m) some_left
        ∙ first_of z B w k c (d.left - 1) (drop (c * length ts) s₀) a m
        ∙ (rw (rest, sym same-sheets) refl)

    goes-own : (e : Total) (b n s₂ : List ℕ) → e ≡ next_total S d t → b ≡ t.array → n ≡ t.map
        → s₂ ≡ take at s ++ (t.sheets ++ drop (at + c) s) → Progress z B w k c a₀ m₀ s₀ (ts ++ (t ∷ [])) e b n s₂
    goes-own e b n s₂ is array map written =
        let snoc : length (ts ++ (t ∷ [])) ≡ suc (length ts) = length-append ts (t ∷ []) ∙ add-one (length ts) in
        let kept : length t.sheets ≡ c = sheets-kept z B w a m (take c (drop at s)) k ∙ own-long in
        let put : s₂ ≡ take (c * length ts) s ++ (t.sheets ++ drop (c * length ts + c) s) =
        written ∙ ap (λ (i : ℕ). take (c * i) s ++ (t.sheets ++ drop (c * i + c) s)) p.turns in
        let few = few-counted z B w a m (take c (drop at s)) k in
        let bytes = p.bytes in
        let before = p.few in
        let turns : e.turns ≡ d.turns + 1 = ap (λ (x : Total). x.turns) is in
        let grown : c * e.turns ≡ c * d.turns + c =
        ap (λ (i : ℕ). c * i) (turns ∙ add-one d.turns) ∙ omega (arith, next c d.turns) in
        let made : e.made ≡ d.made + repair_count t.answer = ap (λ (x : Total). x.made) is in
        let left : e.left ≤ d.left - 1 = rw is (lesser (unfinished S t) (d.left - 1)) in
        let same = p.turns in
        let room = p.room in
        let least = mul-le-mul_left c (let l : e.turns + e.left ≤ d.turns + d.left = omega arith in l) in
        record {
          bytes = p.bytes;
          follows =
              p.follows ∙ ap (λ (l : List Turn). ts ++ l) then ∙ sym (append_assoc ts (t ∷ []) _)
              ∙ (rw (snoc, is, array, map) refl);
          last = ap (λ (x : Total). x.last) is ∙ ap (λ (u : Turn). u.answer) (sym (last_snoc (start a₀ m₀) ts t));
          turns = turns ∙ omega arith;
          made = made ∙ ap (λ (i : ℕ). i + repair_count t.answer) p.made ∙ sym (made_snoc ts t);
          few = omega arith;
          array = array ∙ ap (λ (u : Turn). u.array) (sym (last_snoc (start a₀ m₀) ts t));
          map = map ∙ ap (λ (u : Turn). u.map) (sym (last_snoc (start a₀ m₀) ts t));
          written =
              record {
                sheets =
                    (rw (snoc, put)) ∙ put-parts c (length ts) s t.sheets behind kept
                    ∙ ap (λ (ss : List (List ℕ)). ss ++ (t.sheets ∷ [])) p.written.sheets ∙ sym (sheets_snoc ts t);
                rest =
                    rw (snoc, put)
                    (put_rest c (length ts) s t.sheets behind kept ∙ sym (one_more s) ∙ ap (drop c) p.written.rest ∙ one_more s₀);
              };
          long = (
            ap length put ∙ put_length c (length ts) s t.sheets behind kept ∙ p.long.0,
            ap length array ∙ array-kept z B w a m (take c (drop at s)) k ∙ p.long.1,
            ap length map ∙ map-kept z B w a m (take c (drop at s)) k ∙ p.long.2,
          );
          room = omega arith;
        }
      where
        lesser : (b : Bool) (j : ℕ) → cond b j 0 ≤ j
        lesser true j = omega arith
        lesser false j = omega arith

    -- With the sheets as the part of the buffer that is lent.
    pub goes : {own : List ℕ} {e : Total} {b n s₂ : List ℕ} → own ≡ take c (drop at s) → let u = rebuild_turn z B w a m own k in
        e ≡ next_total S d u → b ≡ u.array → n ≡ u.map → s₂ ≡ take at s ++ (u.sheets ++ drop (at + c) s)
        → Progress z B w k c a₀ m₀ s₀ (ts ++ (u ∷ [])) e b n s₂
    goes {e = e} {b = b} {n = n} {s₂ = s₂} is =
        subst
        (λ (l : List ℕ).
        let u = rebuild_turn z B w a m l k in
        e ≡ next_total S d u → b ≡ u.array → n ≡ u.map → s₂ ≡ take at s ++ (u.sheets ++ drop (at + c) s)
        → Progress z B w k c a₀ m₀ s₀ (ts ++ (u ∷ [])) e b n s₂)
        (sym is) (goes-own e b n s₂)
