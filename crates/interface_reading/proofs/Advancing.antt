-- What the calls of reading answer, from the steps that they take.
use Rattle.std.proofs.Common.{◌≡◌, ◌≢◌, ℕ, ◌+◌, ◌<◌, sym, ap, subst, ◌∙◌, List, [], ◌∷◌, ◌++◌, get_or, Some, None, arith}
use Rattle.std.specs.Prelude.{Result, Ok, Err, IsErrAnd}
use Rattle.cm_bytes.specs.Fields.{u32_at}
use Rattle.node_bytes.specs.declared.table.Row.{Row}
use Rattle.interface_reading.specs.Meeting.{Meets}
use Rattle.interface_reading.specs.Weights.{bytes_weight, opens_weight}
use Rattle.interface_reading.specs.Remaining.{left_with, left_of, AreSound, Holds, with_open, with_need, Moves, Advances, OpensNode, AddsNew, ReadsOpen, IsRead}
use Rattle.interface_reading.specs.declared.fault.RestoreFault.{RestoreFault}
use Rattle.interface_reading.specs.declared.fault.RestoreFault.TheVariants as fault
use Rattle.interface_reading.specs.declared.needs.Need.{Need}
use Rattle.interface_reading.specs.declared.needs.Need.TheVariants as need
use Rattle.interface_reading.specs.declared.open.Open.{Open}
use Rattle.interface_reading.specs.declared.reading.Reading.{Reading}
use Rattle.interface_reading.proofs.Moving.{field_stops, part_ends, with_part, back_followed, open_refused, node_opened}
use Rattle.interface_reading.proofs.Closing.{stands_already}
use Rattle.interface_reading.proofs.Weighing.{u32_taken}

-- ---- errors

pub advances_not : (r : Result (Unit {0}) RestoreFault) (e : RestoreFault) (old new : Reading) (bytes rest : List ℕ)
    → IsErrAnd r (λ y. y ≡ e) → Advances (Err e) old new bytes rest → Advances r old new bytes rest
advances_not (Ok done) e old new bytes rest is h = absurd is
advances_not (Err y) e old new bytes rest is h =
    subst (λ (z : RestoreFault). Advances (Err z) old new bytes rest) (sym is) h

-- whatever stands afterwards
pub advances_nowhere : (e : RestoreFault) (old new other : Reading) (bytes rest more : List ℕ)
    → Advances (Err e) old new bytes rest → Advances (Err e) old other bytes more
advances_nowhere fault.BadInterface old new other bytes rest more h = h
advances_nowhere fault.NoMemory old new other bytes rest more h = tt

-- ---- a need that isn't a part

-- a refusal
pub meets_not : (s other : Reading) (old new : Open) (n : Need) (e : RestoreFault) (bytes rest : List ℕ)
    → Meets n (Err e) old new bytes rest → Advances (Err e) (with_open s (with_need old n)) other bytes rest
meets_not s other old new n fault.BadInterface bytes rest h = field_stops s old n bytes h
meets_not s other old new n fault.NoMemory bytes rest h = tt

-- ---- a back reference

pub back_reference : (s : Reading) (o : Open) (bytes rest : List ℕ) (n p : ℕ)
    → Holds (with_open s (with_need o need.Part)) → u32_at bytes ≡ Some (n, rest)
    → Some p ≡ get_or s.numbers.items n None
    → Moves (with_open s (with_need o need.Part)) (with_open s (with_part o p)) (12 ∷ bytes) rest
back_reference s o bytes rest n p h e place =
    let fewer = u32_taken bytes n rest e in
    back_followed s o bytes rest n p h e (omega (arith, fewer)) (sym place)

-- a state with these nodes open
abbrev pub with_opens : Reading → List Open → Reading
with_opens s zs = record s { opens = zs }

pub moves_to : (old s : Reading) (o : Open) (zs : List Open) (bytes rest : List ℕ) → zs ≡ s.opens ++ o ∷ []
    → Moves old (with_open s o) bytes rest → Moves old (with_opens s zs) bytes rest
moves_to old s o zs bytes rest e h =
    subst (λ (z : List Open). Moves old (with_opens s z) bytes rest) (sym e) h

-- ---- a part

-- behind a tag
pub behind_tag : (r : Result (Unit {0}) RestoreFault) (old new : Reading) (bytes rest left : List ℕ) (tag n : ℕ)
    → bytes ≡ tag ∷ rest → tag ≡ n → Advances r old new (n ∷ rest) left → Advances r old new bytes left
behind_tag r old new bytes rest left tag n e is h =
    subst (λ (z : List ℕ). Advances r old new z left) (sym (e ∙ ap (λ (t : ℕ). t ∷ rest) is)) h

pub opens_part : (r : Result (Unit {0}) RestoreFault) (s new : Reading) (o : Open) (bytes rest : List ℕ) (tag : ℕ)
    → Holds (with_open s (with_need o need.Part)) → bytes ≡ tag ∷ rest → tag ≢ 12
    → OpensNode tag r (with_open s o) new → Advances r (with_open s (with_need o need.Part)) new bytes rest
opens_part (Ok done) s new o bytes rest tag h e other k =
    subst (λ (z : List ℕ). Moves (with_open s (with_need o need.Part)) new z rest) (sym e)
    (node_opened s new o tag rest other h k)
opens_part (Err fault.BadInterface) s new o bytes rest tag h e other k =
    ap (λ (z : List ℕ). left_of (with_open s (with_need o need.Part)) z) e ∙ open_refused s o tag rest other k
opens_part (Err fault.NoMemory) s new o bytes rest tag h e other k = tt

pub no_part : (s : Reading) (o : Open) (bytes : List ℕ) → bytes ≡ []
    → left_of (with_open s (with_need o need.Part)) bytes ≡ None
no_part s o bytes e = ap (λ (z : List ℕ). left_of (with_open s (with_need o need.Part)) z) e ∙ part_ends s o

-- ---- an end

pub adds_not : (s other : Reading) (o : Open) (e : RestoreFault) (new : List Row) (bytes : List ℕ)
    → Holds (with_open s o) → o.needs ≡ []
    → AddsNew (record { tag = o.tag; items = o.items }) s.rows.keys new (Err e)
    → Advances (Err e) (with_open s o) other bytes bytes
adds_not s other o fault.BadInterface new bytes h whole k = stands_already s o bytes h whole k
adds_not s other o fault.NoMemory new bytes h whole k = tt

-- ---- the innermost node is taken from the list

pub taken_holds : (s : Reading) (zs : List Open) (o : Open) → s.opens ≡ zs ++ o ∷ [] → Holds s
    → Holds (with_open (with_opens s zs) o)
taken_holds s zs o e h = subst (λ (z : List Open). AreSound s.rows.keys s.numbers.items z) e h

pub taken_left : (s : Reading) (zs : List Open) (o : Open) (bytes : List ℕ) → s.opens ≡ zs ++ o ∷ []
    → left_of s bytes ≡ left_of (with_open (with_opens s zs) o) bytes
taken_left s zs o bytes e = ap (λ (z : List Open). left_with s.rows.keys s.numbers.items z bytes) e

pub taken_less : (s new : Reading) (zs : List Open) (o : Open) (bytes rest : List ℕ) → s.opens ≡ zs ++ o ∷ []
    → bytes_weight rest + opens_weight new.opens < bytes_weight bytes + opens_weight (zs ++ o ∷ [])
    → bytes_weight rest + opens_weight new.opens < bytes_weight bytes + opens_weight s.opens
taken_less s new zs o bytes rest e h =
    subst (λ (z : List Open). bytes_weight rest + opens_weight new.opens < bytes_weight bytes + opens_weight z) (sym e) h

-- what is awaited first is taken from it
abbrev pub with_needs : Open → List Need → Open
with_needs o zs = record o { needs = zs }

pub need_taken : (P : Open → Type 0) (o : Open) (zs : List Need) → o.needs ≡ zs → P o → P (with_needs o zs)
need_taken P o zs e h = subst (λ (z : List Need). P (with_needs o z)) e h

pub need_back : (P : Open → Type 0) (o : Open) (zs : List Need) → o.needs ≡ zs → P (with_needs o zs) → P o
need_back P o zs e h = subst (λ (z : List Need). P (with_needs o z)) (sym e) h

-- ---- the loop

pub all_read : (first s : Reading) (zs : List Open) (bytes rest : List ℕ) → s.opens ≡ [] → zs ≡ [] → Holds s
    → left_of first bytes ≡ left_of s rest → IsRead first (with_opens s zs) bytes rest
all_read first s zs bytes rest e k h goes =
    let same : s.opens ≡ zs = e ∙ sym k in
    record {
      holds = subst (λ (z : List Open). AreSound s.rows.keys s.numbers.items z) same h;
      closed = k;
      goes = goes ∙ ap (λ (z : List Open). left_with s.rows.keys s.numbers.items z rest) same;
    }

pub reads_not : (r : Result (Unit {0}) RestoreFault) (e : RestoreFault) (first s now new : Reading) (zs : List Open)
    (o : Open) (bytes middle rest left : List ℕ) → IsErrAnd r (λ y. y ≡ e) → s.opens ≡ zs ++ o ∷ []
    → Advances (Err e) (with_open (with_opens s zs) o) now middle rest → left_of first bytes ≡ left_of s middle
    → ReadsOpen r first new bytes left
reads_not (Ok done) e first s now new zs o bytes middle rest left is opens h k = absurd is
reads_not (Err y) e first s now new zs o bytes middle rest left is opens h k =
    subst (λ (z : RestoreFault). ReadsOpen (Err z) first new bytes left) (sym is) (by e h)
  where
    by : (z : RestoreFault) → Advances (Err z) (with_open (with_opens s zs) o) now middle rest
        → ReadsOpen (Err z) first new bytes left
    by fault.BadInterface n = k ∙ taken_left s zs o middle opens ∙ n
    by fault.NoMemory n = tt
