-- Lists of structures of a graph.
use Rattle.std.proofs.Common.{◌≡◌, List, [], ◌∷◌, ◌++◌, sym, subst}
use Rattle.sml_modules.specs.declared.parts.NamedEnv.{NamedEnv}
use Rattle.sml_modules.specs.Graphs.{Graph, HasEnv, HasEnvs}

have_more : (g : Graph) (es : List NamedEnv) (e : NamedEnv) → HasEnvs g es → HasEnv g e.env → HasEnvs g (es ++ e ∷ [])
have_more g [] e h k = (k, tt)
have_more g (x ∷ xs) e h k = (h.0, have_more g xs e h.1 k)

pub have_added : (g : Graph) (es : List NamedEnv) (e : NamedEnv) (longer : List NamedEnv) → HasEnvs g es
    → HasEnv g e.env → longer ≡ es ++ e ∷ [] → HasEnvs g longer
have_added g es e longer h k is = subst (HasEnvs g) (sym is) (have_more g es e h k)
