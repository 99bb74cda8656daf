-- Names that stand twice in a list that may hold each but once, and the earliest place of one. (The Definition, 2.9 and
-- 3.5, syntactic restrictions.)
use Rattle.std.specs.Prelude.{◌≡◌, ℕ, Bool, false, ◌&&◌, ◌||◌, ◌==◌, nat_eq, nat_lt, List, [], ◌∷◌, ◌++◌, Option, Some, None, if◌then◌else◌, Contains}
use Rattle.std.specs.List.{list_any}
use Rattle.sml_trees.specs.declared.name.At.{At}
use Rattle.sml_trees.specs.declared.name.Name.{Name}
use Rattle.bare_forms.specs.Patterns.{at_name}
use lib.Pointwise.{pointwise}

-- ---- the earliest of places

-- whether a place of a file stands before another
abbrev pub is_before : At → At → Bool
is_before a b = nat_lt a.line b.line || (a.line == b.line && nat_lt a.col b.col)

-- the earliest of these places, if there is any
abbrev pub IsEarliest : List At → Option At → Type 0
IsEarliest ats None = ats ≡ []
IsEarliest ats (Some first) = Contains ats first × ((at : At) → Contains ats at → is_before at first ≡ false)

abbrev pub earlier : At → At → At
earlier a b = if is_before a b then a else b

abbrev pub sooner : Option At → At → Option At
sooner None at = Some at
sooner (Some first) at = Some (earlier at first)

-- .. of a place, if there is one, and of others
abbrev pub earliest_with : Option At → List At → Option At
earliest_with first [] = first
earliest_with first (at ∷ ats) = earliest_with (sooner first at) ats

abbrev pub earliest : List At → Option At
earliest ats = earliest_with None ats

-- ---- one list

-- a member of a list: its name, and the places of names that stand twice in lists inside it
pub record Member : Type 0 where
  pub name : Name
  pub inside : List At

abbrev pub member : Name → List At → Member
member name inside = record { name = name; inside = inside }

abbrev pub bare_member : Name → Member
bare_member name = member name []

-- whether a name is among these
abbrev pub is_among : List (List ℕ) → List ℕ → Bool
is_among names text = list_any (λ other. pointwise nat_eq text other) names

-- the place of a name that stands behind an equal one
abbrev pub place_again : List (List ℕ) → Name → List At
place_again before name = if is_among before name.text then at_name name ∷ [] else []

-- where a name stands behind an equal one in a list that goes on behind these names, or in a list inside it
abbrev pub repeats_behind : List (List ℕ) → List Member → List At
repeats_behind before [] = []
repeats_behind before (m ∷ ms) =
    place_again before m.name ++ (m.inside ++ repeats_behind (m.name.text ∷ before) ms)

-- .. in a list
abbrev pub repeats_in : List Member → List At
repeats_in members = repeats_behind [] members

-- all of several phrases
abbrev pub all_repeats : List (List At) → List At
all_repeats [] = []
all_repeats (ats ∷ others) = ats ++ all_repeats others

-- those of what may be absent
abbrev pub option_repeats : Option (List At) → List At
option_repeats None = []
option_repeats (Some ats) = ats
