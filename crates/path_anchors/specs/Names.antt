-- Written paths and the one name of a file (CM manual, path anchors). A path is its components, which stand between
-- slashes. An anchored path is taken in its anchor's directory, and any other in that of the description that holds it.
use Rattle.std.specs.Prelude.{ℕ, ◌≡◌, ◌==◌, ◌&&◌, ◌||◌, Bool, true, false, not, nat_eq, nat_lt, List, [], ◌∷◌, ◌++◌, Option, Some, None, Result, Ok, Err, if◌then◌else◌, length, drop, is_some}
use Rattle.std.specs.List.{list_any, slice_split, join_with_byte}
use Rattle.std.specs.Map.{lookup}
use Rattle.std.specs.Option.{option_and_then, option_map_or}
use Rattle.path_anchors.specs.declared.fault.PathFault.{PathFault}
use Rattle.path_anchors.specs.declared.fault.PathFault.TheVariants as fault
use Rattle.path_anchors.specs.declared.route.Route.{Route}
use lib.Pointwise.{pointwise}

-- the anchors that are bound, each with its directory: components with a slash between each two
abbrev pub Bindings : Type 0
Bindings = List (List ℕ × List ℕ)

-- ---- components

-- the components of a path: what stands between its slashes
abbrev pub parts_of : List ℕ → List (List ℕ)
parts_of path = slice_split (λ byte. byte == 47) path

-- components as a path
abbrev pub path_of : List (List ℕ) → List ℕ
path_of parts = join_with_byte 47 parts

-- an empty component or `.`, which leads nowhere
abbrev pub is_stay : List ℕ → Bool
is_stay part = (length part == 0) || pointwise nat_eq part (46 ∷ [])

-- `..`
abbrev pub is_up : List ℕ → Bool
is_up part = pointwise nat_eq part (46 ∷ 46 ∷ [])

-- all components but the last
abbrev pub all_but_last : List (List ℕ) → List (List ℕ)
all_but_last [] = []
all_but_last (part ∷ []) = []
all_but_last (part ∷ next ∷ parts) = part ∷ all_but_last (next ∷ parts)

-- the directory above one; there is none above the top
abbrev pub above : List (List ℕ) → Option (List (List ℕ))
above [] = None
above (part ∷ parts) = Some (all_but_last (part ∷ parts))

-- where a component leads from a place: nowhere, one up, or one down; none where it climbs above the top
abbrev pub stepped : List (List ℕ) → List ℕ → Option (List (List ℕ))
stepped here part = if is_stay part then Some here else (if is_up part then above here else Some (here ++ part ∷ []))

-- .. and where several lead, one after the other
abbrev pub walked : List (List ℕ) → List (List ℕ) → Option (List (List ℕ))
walked here [] = Some here
walked here (part ∷ parts) = option_and_then (λ there. walked there parts) (stepped here part)

-- whether components begin with these
abbrev pub begins_with : List (List ℕ) → List (List ℕ) → Bool
begins_with parts [] = true
begins_with [] (first ∷ front) = false
begins_with (part ∷ parts) (first ∷ front) = pointwise nat_eq first part && begins_with parts front

-- .. by the bytes of their paths: after those of the front comes nothing, or a slash
abbrev pub is_end : List ℕ → Bool
is_end [] = true
is_end (byte ∷ bytes) = byte == 47

-- a greatest length of 1,024 bytes, and of 200 for each component
abbrev pub passes_limit : List ℕ → Bool
passes_limit path = nat_lt 1024 (length path) || list_any (λ part. nat_lt 200 (length part)) (parts_of path)

-- ---- where a path leads

-- whether a component is an anchor with its mark, `$`
abbrev pub is_marked : List ℕ → Bool
is_marked [] = false
is_marked (byte ∷ bytes) = byte == 36

-- the anchor of a marked component; `$` alone stands for the anchor that the next component names
abbrev pub anchor_named : List ℕ → List ℕ → List ℕ
anchor_named mark next = if length mark == 1 then next else drop 1 mark

-- a path whose first component is marked, and isn't its only one, is taken in the directory of an anchor
abbrev pub anchored : List (List ℕ) → Option Route
anchored [] = None
anchored (mark ∷ []) = None
anchored (mark ∷ next ∷ parts) =
    if is_marked mark then Some (record { anchor = Some (anchor_named mark next); parts = next ∷ parts }) else None

-- any other path leads from the top
abbrev pub plain_route : List (List ℕ) → Route
plain_route parts = record { anchor = None; parts = parts }

-- the route of a path at the top, or of a name: the anchor that it begins with, if it does, and what follows
abbrev pub top_route : List (List ℕ) → Route
top_route parts = option_map_or (λ at. at) (anchored parts) (plain_route parts)

-- the directory of a description: where its name leads, without the last component
abbrev pub directory_of : Route → Route
directory_of base = record { anchor = base.anchor; parts = all_but_last base.parts }

-- a written path that isn't anchored starts where its description lies
abbrev pub below : Route → List (List ℕ) → Route
below at parts = record { anchor = at.anchor; parts = at.parts ++ parts }

abbrev pub route_of : List (List ℕ) → List (List ℕ) → Route
route_of base written = option_map_or (λ at. at) (anchored written) (below (directory_of (top_route base)) written)

-- ---- names

-- the name of a file: its path from the top, or `$a` and its path in the directory of the anchor `a`
abbrev pub name_of : Option (List ℕ) → List (List ℕ) → List ℕ
name_of None parts = path_of parts
name_of (Some anchor) parts = path_of ((36 ∷ anchor) ∷ parts)

-- the directory of an anchor, by the list of bindings
abbrev pub bound_to : Bindings → List ℕ → Option (List ℕ)
bound_to anchors anchor = lookup (pointwise nat_eq anchor) anchors

abbrev pub is_bound : Bindings → Option (List ℕ) → Bool
is_bound anchors None = true
is_bound anchors (Some anchor) = is_some (bound_to anchors anchor)

-- whether a plain path lies in an anchor's directory: its components begin with those of the directory
abbrev pub is_claimed : Bindings → List ℕ → Bool
is_claimed anchors path = list_any (λ bound. begins_with (parts_of path) (parts_of bound.1)) anchors

-- `.cm`, the folder of the store
abbrev pub is_store : List ℕ → Bool
is_store part = pointwise nat_eq part (46 ∷ 99 ∷ 109 ∷ [])

-- the name of a plain path, or the number that refuses it
abbrev pub plain_name : Bindings → List (List ℕ) → Result (List ℕ) ℕ
plain_name anchors [] = Err 6
plain_name anchors (first ∷ parts) =
    if is_marked first then Err 5
    else (if is_store first then Err 18
    else (if is_claimed anchors (path_of (first ∷ parts)) then Err 7
    else Ok (path_of (first ∷ parts))))

-- the name of a path that leads to these components; none are left where it climbs above its top
abbrev pub named : Bindings → Option (List ℕ) → Option (List (List ℕ)) → Result (List ℕ) ℕ
named anchors anchor None = Err 6
named anchors anchor (Some []) = Err 6
named anchors None (Some (first ∷ parts)) = plain_name anchors (first ∷ parts)
named anchors (Some anchor) (Some (first ∷ parts)) = Ok (name_of (Some anchor) (first ∷ parts))

abbrev pub begins_at_root : List ℕ → Bool
begins_at_root [] = false
begins_at_root (byte ∷ bytes) = byte == 47

-- the name of the file at the end of a route
abbrev pub name_at : Bindings → Route → List ℕ → Result (List ℕ) ℕ
name_at anchors route written =
    if not (is_bound anchors route.anchor) then Err 5
    else (if begins_at_root written then Err 6 else named anchors route.anchor (walked [] route.parts))

-- the one name of the file that a written path means in a description, or the first number that refuses it
abbrev pub resolved : Bindings → List ℕ → List ℕ → Result (List ℕ) ℕ
resolved anchors base written =
    if passes_limit written then Err 12 else name_at anchors (route_of (parts_of base) (parts_of written)) written

-- a name that some path has
pub record IsName (anchors : Bindings) (name : List ℕ) : Type 0 where
  pub base : List ℕ
  pub written : List ℕ
  pub gives : resolved anchors base written ≡ Ok name

-- what `resolve` answers: the name, or the number
abbrev pub Resolves : {A : Type 0} → Result A PathFault → Result A ℕ → Type 0
Resolves (Ok name) defined = defined ≡ Ok name
Resolves (Err (fault.Number number)) defined = defined ≡ Err number
Resolves (Err fault.NoMemory) defined = Unit {0}

-- a step's answer: the place that it leads to, or 6 where there is none
abbrev pub Walks : Result (Unit {0}) PathFault → Option (List (List ℕ)) → List (List ℕ) → Type 0
Walks (Ok done) there here = there ≡ Some here
Walks (Err (fault.Number number)) there here = (number ≡ 6) × (there ≡ None)
Walks (Err fault.NoMemory) there here = Unit {0}

-- ---- where a name lies

-- the components of an anchor's directory, and of the top where there is no anchor
abbrev pub top_of : Bindings → Option (List ℕ) → List (List ℕ)
top_of anchors None = []
top_of anchors (Some anchor) = option_map_or parts_of (bound_to anchors anchor) []

abbrev pub folder_parts : Bindings → Route → List (List ℕ)
folder_parts anchors at = top_of anchors at.anchor ++ at.parts

-- the path in the folder of the file of a name
abbrev pub folder_path_of : Bindings → List ℕ → List ℕ
folder_path_of anchors name = path_of (folder_parts anchors (top_route (parts_of name)))
