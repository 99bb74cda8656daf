-- Steps of the search for ranks: a unit is finished, entered, or closes a cycle.
use Rattle.std.proofs.Common.{◌≡◌, ◌≢◌, ℕ, suc, ◌+◌, ◌<◌, ◌≤◌, true, false, cond, List, [], ◌∷◌, ◌++◌, length, get_or, set, map, reverse, refl, sym, ap, subst, ◌∙◌, inl, inr, ◌⊎◌, arith}
use Rattle.std.specs.Prelude.{Contains, All, count_by}
use Rattle.std.proofs.lemmas.Bool.{cases_lt, cases_eq}
use Rattle.std.proofs.lemmas.List.{get_or-set_same, get_or-set_other, length-set, map_push, reverse-append, set_past, get_or_append_left, length_push}
use Rattle.std.proofs.lemmas.List.Elements.{All-nil, All-push, All-contains, Contains-push}
use Rattle.std.proofs.lemmas.List.Sums.{sum_by-set}
use Rattle.dependency_graph.specs.Order.{providers, IsRank, AllAreUnits}
use Rattle.dependency_graph.specs.Cycle.{HasCycle}
use Rattle.dependency_graph.specs.Search.{IsPart, IsPath, AreNoted, AreRanks, IsVisiting, KeepsMet, mark_of, is_new, path_of}
use Rattle.dependency_graph.specs.declared.ranks.Mark.{Mark}
use Rattle.dependency_graph.specs.declared.ranks.Mark.TheVariants.{New, Open, Done}
use Rattle.dependency_graph.specs.declared.ranks.Frame.{Frame}
use Rattle.dependency_graph.proofs.Walks.{member_cases, closed}

-- the top frame's unit leads the path
pub path_push : (stack : List Frame) (frame : Frame) → path_of (stack ++ frame ∷ []) ≡ frame.unit ∷ path_of stack
path_push stack frame =
    ap reverse (map_push (λ (f : Frame). f.unit) stack frame)
    ∙ reverse-append (map (λ (f : Frame). f.unit) stack) (frame.unit ∷ [])

-- a unit's mark after one mark is set
mark_set : (marks : List Mark) (at : ℕ) (mark : Mark) (unit : ℕ) → at < length marks →
    ((unit ≡ at) × (mark_of (set marks at mark) unit ≡ mark))
    ⊎ ((unit ≢ at) × (mark_of (set marks at mark) unit ≡ mark_of marks unit))
mark_set marks at mark unit within =
    elim (cases_eq unit at) [
      | inl same ↦ inl (same, rw same (get_or-set_same marks at mark New within))
      | inr other ↦ inr (other, get_or-set_other marks at unit mark New other)
    ]

-- a path without its first unit is a path
path_rest : (edges : List (List ℕ)) (unit : ℕ) (path : List ℕ) → IsPath edges (unit ∷ path) → IsPath edges path
path_rest edges unit [] way = tt
path_rest edges unit (user ∷ rest) (edge, way) = way

-- all of a list's items but the last
all_front : {X : Type 0} (P : X → Type 0) (xs : List X) (x : X) → All P (xs ++ x ∷ []) → All P xs
all_front P xs x all k d within =
    subst P (get_or_append_left xs (x ∷ []) d k within) (all k d (omega (arith, length_push xs x)))

-- the mark and the rank of the top unit are noted
noted_set : (edges : List (List ℕ)) (marks : List Mark) (ranks : List ℕ) (unit rank : ℕ) →
    AreNoted edges marks ranks → unit < length edges → IsRank edges unit rank →
    AreNoted edges (set marks unit Done) (set ranks unit rank)
noted_set edges marks ranks unit rank noted known is = record {
  marked = length-set marks unit Done ∙ noted.marked;
  ranked = length-set ranks unit rank ∙ noted.ranked;
  right = λ (u : ℕ) (done : mark_of (set marks unit Done) u ≡ Done).
      elim (mark_set marks unit Done u (omega (arith, noted.marked))) [
        | inl (same, _) ↦
            rw (same, get_or-set_same ranks unit rank 0 (omega (arith, noted.ranked))) is
        | inr (other, e) ↦ rw (get_or-set_other ranks unit u rank 0 other) (noted.right u (sym e ∙ done))
      ];
}

-- opening a unit notes no rank
noted_opened : (edges : List (List ℕ)) (marks : List Mark) (ranks : List ℕ) (unit : ℕ) →
    AreNoted edges marks ranks → unit < length edges → AreNoted edges (set marks unit Open) ranks
noted_opened edges marks ranks unit noted known = record {
  marked = length-set marks unit Open ∙ noted.marked;
  ranked = noted.ranked;
  right = λ (u : ℕ) (done : mark_of (set marks unit Open) u ≡ Done).
      elim (mark_set marks unit Open u (omega (arith, noted.marked)))
      [ inl (_, e) ↦ cc | inr (_, e) ↦ noted.right u (sym e ∙ done) ];
}

-- a frame that has gone through no provider
fresh_part : (edges : List (List ℕ)) (unit : ℕ) → unit < length edges →
    IsPart edges (record { unit = unit; next = 0; rank = 0 })
fresh_part edges unit known = record {
  known = known;
  within = omega arith;
  reached = (unit, refl);
  longest = λ at before steps last way. absurd (omega (arith, before));
}

-- a provider of a unit is a unit
pub provider_known : (edges : List (List ℕ)) (unit provider : ℕ) → AllAreUnits edges → unit < length edges →
    Contains (providers edges unit) provider → provider < length edges
provider_known edges unit provider units known edge =
    All-contains (λ u. u < length edges) (providers edges unit) provider (units unit [] known) edge

-- what is known of the top frame
pub top_part : (edges : List (List ℕ)) (stack : List Frame) (frame : Frame) →
    All (IsPart edges) (stack ++ frame ∷ []) → IsPart edges frame
top_part edges stack frame parts = All-contains (IsPart edges) (stack ++ frame ∷ []) frame parts
    (Contains-push stack frame)

-- a member of a list is one of the list with one more item in front
pub member_more : {X : Type 0} (x : X) (xs : List X) (y : X) → Contains xs y → Contains (x ∷ xs) y
member_more x xs y (k, within, is) = (suc k, omega arith, is)

-- the top unit is finished
pub finished : (edges : List (List ℕ)) (marks : List Mark) (ranks : List ℕ) (stack : List Frame) (frame : Frame)
    (rank : ℕ) → IsVisiting edges marks ranks (stack ++ frame ∷ []) → IsRank edges frame.unit rank →
    IsVisiting edges (set marks frame.unit Done) (set ranks frame.unit rank) stack
finished edges marks ranks stack frame rank visiting is = record {
  noted = noted_set edges marks ranks frame.unit rank visiting.noted (top_part edges stack frame visiting.parts).known
      is;
  parts = all_front (IsPart edges) stack frame visiting.parts;
  path = path_rest edges frame.unit (path_of stack) (subst (IsPath edges) (path_push stack frame) visiting.path);
  on = λ (u : ℕ) (met : mark_of (set marks frame.unit Done) u ≡ Open).
      elim (mark_set marks frame.unit Done u
      (omega (arith, visiting.noted.marked, (top_part edges stack frame visiting.parts).known))) [
        | inl (_, e) ↦ cc
        | inr (other, e) ↦
            elim (member_cases frame.unit (path_of stack) u
            (subst (λ l. Contains l u) (path_push stack frame) (visiting.on u (sym e ∙ met))))
            [ inl same ↦ absurd (other (sym same)) | inr more ↦ more ]
      ];
}

-- a new provider of the top unit is entered
pub entered : (edges : List (List ℕ)) (marks : List Mark) (ranks : List ℕ) (stack : List Frame) (frame more : Frame)
    (provider : ℕ) → IsVisiting edges marks ranks (stack ++ frame ∷ []) → IsPart edges more →
    more.unit ≡ frame.unit → Contains (providers edges frame.unit) provider → mark_of marks provider ≡ New →
    provider < length edges →
    IsVisiting edges (set marks provider Open) ranks
    ((stack ++ more ∷ []) ++ record { unit = provider; next = 0; rank = 0 } ∷ [])
entered edges marks ranks stack frame more provider visiting part same edge new known =
    let fresh : Frame = record { unit = provider; next = 0; rank = 0 } in
    let is : path_of ((stack ++ more ∷ []) ++ fresh ∷ []) ≡ provider ∷ frame.unit ∷ path_of stack =
    path_push (stack ++ more ∷ []) fresh
    ∙ ap (λ l. provider ∷ l) (path_push stack more ∙ ap (λ u. u ∷ path_of stack) same) in
    record {
      noted = noted_opened edges marks ranks provider visiting.noted known;
      parts =
          All-push (IsPart edges) (stack ++ more ∷ []) fresh
          (All-push (IsPart edges) stack more (all_front (IsPart edges) stack frame visiting.parts) part)
          (fresh_part edges provider known);
      path =
          subst (IsPath edges) (sym is)
          (edge, subst (IsPath edges) (path_push stack frame) visiting.path);
      on = λ (u : ℕ) (met : mark_of (set marks provider Open) u ≡ Open).
          subst (λ l. Contains l u) (sym is)
          (elim (mark_set marks provider Open u (omega (arith, visiting.noted.marked))) [
            | inl (same, _) ↦ (0, omega arith, sym same)
            | inr (other, e) ↦
                member_more provider (frame.unit ∷ path_of stack) u
                (subst (λ l. Contains l u) (path_push stack frame) (visiting.on u (sym e ∙ met)))
          ]);
    }

-- an open provider of the top unit closes a cycle
pub closes : (edges : List (List ℕ)) (marks : List Mark) (ranks : List ℕ) (stack : List Frame) (frame : Frame)
    (provider : ℕ) → IsVisiting edges marks ranks (stack ++ frame ∷ []) →
    Contains (providers edges frame.unit) provider → mark_of marks provider ≡ Open → HasCycle edges
closes edges marks ranks stack frame provider visiting edge met =
    let way = subst (IsPath edges) (path_push stack frame) visiting.path in
    let on = subst (λ l. Contains l provider) (path_push stack frame) (visiting.on provider met) in
    closed edges frame.unit (path_of stack) provider way on edge

-- a search begins with one open unit
pub begun : (edges : List (List ℕ)) (marks : List Mark) (ranks : List ℕ) (unit : ℕ) →
    AreNoted edges marks ranks → ((unit : ℕ) → mark_of marks unit ≡ Open → ⊥) → unit < length edges →
    IsVisiting edges (set marks unit Open) ranks (record { unit = unit; next = 0; rank = 0 } ∷ [])
begun edges marks ranks unit noted none known = record {
  noted = noted_opened edges marks ranks unit noted known;
  parts = All-push (IsPart edges) [] (record { unit = unit; next = 0; rank = 0 }) (All-nil (IsPart edges))
      (fresh_part edges unit known);
  path = tt;
  on = λ (u : ℕ) (met : mark_of (set marks unit Open) u ≡ Open).
      elim (mark_set marks unit Open u (omega (arith, noted.marked)))
      [ inl (same, _) ↦ (0, omega arith, sym same) | inr (_, e) ↦ absurd (none u (sym e ∙ met)) ];
}

-- a search that has no frame left has no open unit
pub ended : (edges : List (List ℕ)) (marks : List Mark) (ranks : List ℕ) →
    IsVisiting edges marks ranks [] → (unit : ℕ) → mark_of marks unit ≡ Open → ⊥
ended edges marks ranks visiting unit met = let on = visiting.on unit met in omega (arith, on.1)

-- a mark that isn't New keeps what was met
pub keeps_set : (marks : List Mark) (at : ℕ) (mark : Mark) → is_new mark ≡ false → KeepsMet marks (set marks at mark)
keeps_set marks at mark met unit was =
    elim (cases_lt at (length marks)) [
      | inl within ↦
          elim (mark_set marks at mark unit within)
          [ inl (_, e) ↦ ap is_new e ∙ met | inr (_, e) ↦ ap is_new e ∙ was ]
      | inr past ↦ rw (set_past marks at mark past) was
    ]

-- a new unit that is opened counts no more as new
pub count_opened : (marks : List Mark) (at : ℕ) → at < length marks → mark_of marks at ≡ New →
    count_by is_new (set marks at Open) + 1 ≡ count_by is_new marks
count_opened marks at within new =
    let e = sum_by-set (λ m. cond (is_new m) 1 0) marks at Open New within in
    let one : is_new (get_or marks at New) ≡ true = ap is_new new in
    let counts = subst (λ b. count_by is_new (set marks at Open) + cond b 1 0 ≡ count_by is_new marks + 0) one e in
    counts ∙ omega arith

-- a unit that is done doesn't count as new
pub count_done : (marks : List Mark) (at : ℕ) → at < length marks →
    count_by is_new (set marks at Done) ≤ count_by is_new marks
count_done marks at within =
    let e = sum_by-set (λ m. cond (is_new m) 1 0) marks at Done New within in omega (arith, e)

-- a unit that was met and isn't open is done
pub done_from : (mark : Mark) → is_new mark ≡ false → (mark ≡ Open → ⊥) → mark ≡ Done
done_from New met shut = cc
done_from Open met shut = absurd (shut refl)
done_from Done met shut = refl

-- where all units were met and none is open each has its rank
pub ranks_found : (edges : List (List ℕ)) (marks : List Mark) (ranks : List ℕ) (count : ℕ) →
    AreNoted edges marks ranks → ((unit : ℕ) → mark_of marks unit ≡ Open → ⊥) →
    ((unit : ℕ) → unit < count → is_new (mark_of marks unit) ≡ false) → length edges ≤ count → AreRanks edges ranks
ranks_found edges marks ranks count noted none met all = record {
  counted = noted.ranked;
  right = λ (unit : ℕ) (known : unit < length edges).
      noted.right unit (done_from (mark_of marks unit) (met unit (omega arith)) (none unit));
}

-- one more unit was met
pub met_more : (old new : List Mark) (count : ℕ) →
    ((unit : ℕ) → unit < count → is_new (mark_of old unit) ≡ false) → KeepsMet old new →
    is_new (mark_of new count) ≡ false → (unit : ℕ) → unit < count + 1 → is_new (mark_of new unit) ≡ false
met_more old new count met keeps last unit before =
    elim (cases_eq unit count)
    [ inl same ↦ rw same last | inr other ↦ keeps unit (met unit (omega arith)) ]
