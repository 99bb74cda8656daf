-- A large project that is made from the number of its units, from 1 to 2,000, as the steps of a session: its files are
-- written, it is built, one source in the middle gets a comment more, and it is built again. The unit 1 is a structure
-- with an integer, and each later one is a structure with an integer that is one more than that of the unit with half
-- the number. So the units stand in a tree, and the project has long chains and wide layers.
use Rattle.std.specs.Prelude.{ℕ, ◌+◌, ◌/◌, ◌==◌, List, [], ◌∷◌, ◌++◌, codes, map, if◌then◌else◌}
use Rattle.std.specs.Fmt.{decimal}
use Rattle.std.specs.List.{flat_map, range_with_len}
use Rattle.session_scripts.specs.declared.step.Step.{Step}
use Rattle.session_scripts.specs.declared.step.Step.TheVariants.{Write, Command}

-- the numbers of the units
abbrev pub numbers : ℕ → List ℕ
numbers n = range_with_len 1 n

-- ---- the description

-- a unit's source, as the description beside it names it: `u` and the number
unfoldable pub source_name : ℕ → List ℕ
source_name k = codes "u" ++ (decimal k ++ codes ".sml")

abbrev pub member_line : ℕ → List ℕ
member_line k = source_name k ++ (10 ∷ [])

unfoldable pub group_line : List ℕ
group_line = codes "Group is" ++ (10 ∷ [])

abbrev pub description_text : ℕ → List ℕ
description_text n = group_line ++ flat_map member_line (numbers n)

-- ---- the sources

-- the integer of a unit
unfoldable pub value_text : ℕ → List ℕ
value_text k = if k == 1 then codes "1" else (codes "U" ++ (decimal (k / 2) ++ codes ".n + 1"))

-- what stands before it
unfoldable pub head_text : ℕ → List ℕ
head_text k = codes "structure U" ++ (decimal k ++ codes " = struct val n = ")

unfoldable pub structure_text : ℕ → List ℕ
structure_text k = head_text k ++ (value_text k ++ codes " end")

-- a unit's source, and the same with a comment
abbrev pub source_text : ℕ → List ℕ
source_text k = structure_text k ++ (10 ∷ [])

unfoldable pub comment_text : List ℕ
comment_text = codes " (* again *)"

abbrev pub again_text : ℕ → List ℕ
again_text k = structure_text k ++ (comment_text ++ (10 ∷ []))

-- ---- the steps

-- the paths of the files, which stand in the folder `gen`
unfoldable pub description_path : List ℕ
description_path = codes "gen/main.cm"

unfoldable pub source_path : ℕ → List ℕ
source_path k = codes "gen/" ++ source_name k

abbrev pub write_description : ℕ → Step
write_description n = Write description_path (description_text n)

abbrev pub write_source : ℕ → Step
write_source k = Write (source_path k) (source_text k)

abbrev pub write_again : ℕ → Step
write_again k = Write (source_path k) (again_text k)

unfoldable pub build_word : List ℕ
build_word = codes "build"

abbrev pub build_project : Step
build_project = Command (build_word ∷ description_path ∷ [])

-- the unit whose source is written again
abbrev pub middle : ℕ → ℕ
middle n = (n + 1) / 2

-- the project of so many units
abbrev pub generated : ℕ → List Step
generated n =
    write_description n ∷ (map write_source (numbers n)
    ++ (build_project ∷ write_again (middle n) ∷ build_project ∷ []))
