-- How much is left to be done, while nodes are open: a byte counts for more than all that one can let be awaited.
use Rattle.std.specs.Prelude.{ℕ, suc, ◌+◌, ◌*◌, ◌<◌, List, [], ◌∷◌, length}
use Rattle.interface_reading.specs.declared.needs.Need.{Need}
use Rattle.interface_reading.specs.declared.needs.Need.TheVariants as need
use Rattle.interface_reading.specs.declared.open.Open.{Open}

-- how many steps what is awaited takes at most without a byte
abbrev pub need_weight : Need → ℕ
need_weight (need.Raw n) = 1
need_weight need.Text = 1
need_weight need.Owner = 1
need_weight (need.List l) = 1
need_weight (need.Items l n) = 1 + 4 * n
need_weight need.Part = 1

abbrev pub needs_weight : List Need → ℕ
needs_weight [] = 0
needs_weight (n ∷ needs) = need_weight n + needs_weight needs

-- a step more makes each open node whole
abbrev pub opens_weight : List Open → ℕ
opens_weight [] = 0
opens_weight (o ∷ opens) = suc (needs_weight o.needs) + opens_weight opens

-- with bytes
abbrev pub bytes_weight : List ℕ → ℕ
bytes_weight bytes = 68719476736 * length bytes

-- less is left in a node where what was awaited first was met
abbrev pub IsLighter : Need → List ℕ → List Need → List ℕ → List Need → Type 0
IsLighter need bytes needs rest others =
    bytes_weight rest + needs_weight others < bytes_weight bytes + (need_weight need + needs_weight needs)
