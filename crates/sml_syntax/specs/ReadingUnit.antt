-- How the code of a unit is read, and which units are read.
use Rattle.std.specs.Prelude.{◌≡◌, ℕ, zero, suc, List, [], ◌∷◌, Option, Some, None}
use Rattle.cm_bytes.specs.Fields.{Step, ◌>>=◌, list_at}
use Rattle.sml_syntax.specs.Steps.{made, both, Table, no_tag, or_tag, tagged}
use Rattle.sml_syntax.specs.Reading.{nowhere, name_at, IsName, AreAll}
use Rattle.sml_syntax.specs.ReadingSig.{sig_steps, sig_is, sig_bind_at, IsSigBind}
use Rattle.sml_syntax.specs.ReadingExp.{exp_steps, exp_is, str_bind_at, IsStrBind}
use Rattle.sml_trees.specs.declared.unit.TopDec.{TopDec}
use Rattle.sml_trees.specs.declared.unit.TopDec.TheVariants as top
use Rattle.sml_trees.specs.declared.unit.FunBind.{FunBind}
use Rattle.sml_trees.specs.declared.unit.FunsigBind.{FunsigBind}
use Rattle.sml_trees.specs.declared.unit.BareUnit.{BareUnit}

unfoldable pub fun_bind_at : ℕ → Step FunBind
fun_bind_at n = made (λ p. record { name = p.0; param = p.1.0; param_sig = p.1.1.0; body = p.1.1.1 }) (both name_at (both name_at (both (sig_steps n).sig (exp_steps n).str)))

abbrev pub IsFunBind : ℕ → FunBind → Type 0
IsFunBind n bind = (IsName bind.name × (IsName bind.param × ((sig_is n).sig bind.param_sig × (exp_is n).str bind.body)))

unfoldable pub funsig_bind_at : ℕ → Step FunsigBind
funsig_bind_at n = made (λ p. record { name = p.0; param = p.1.0; param_sig = p.1.1.0; result_sig = p.1.1.1 }) (both name_at (both name_at (both (sig_steps n).sig (sig_steps n).sig)))

abbrev pub IsFunsigBind : ℕ → FunsigBind → Type 0
IsFunsigBind n bind = (IsName bind.name × (IsName bind.param × ((sig_is n).sig bind.param_sig × (sig_is n).sig bind.result_sig)))

-- what is read after each tag of the top level
abbrev pub topdec_table : ℕ → Table TopDec
topdec_table n =
    or_tag 128 (made (λ p. top.Structures p nowhere) (list_at (str_bind_at n (exp_steps n)))) (
    or_tag 129 (made (λ p. top.Signatures p nowhere) (list_at (sig_bind_at n (sig_steps n)))) (
    or_tag 130 (made (λ p. top.Functors p nowhere) (list_at (fun_bind_at n))) (
    or_tag 131 (made (λ p. top.Funsigs p nowhere) (list_at (funsig_bind_at n))) no_tag)))

-- a declaration of the top level of at most so many tags in one another
abbrev pub topdec_at : ℕ → Step TopDec
topdec_at zero = λ bytes. None
topdec_at (suc n) = tagged (topdec_table n)

-- a declaration that has a spelling of at most so many tags in one another, and stands nowhere
abbrev pub IsTopDec : ℕ → TopDec → Type 0
IsTopDec zero x = ⊥
IsTopDec (suc n) (top.Structures binds at) = (AreAll (IsStrBind n (exp_is n))) binds × (at ≡ nowhere)
IsTopDec (suc n) (top.Signatures binds at) = (AreAll (IsSigBind n (sig_is n))) binds × (at ≡ nowhere)
IsTopDec (suc n) (top.Functors binds at) = (AreAll (IsFunBind n)) binds × (at ≡ nowhere)
IsTopDec (suc n) (top.Funsigs binds at) = (AreAll (IsFunsigBind n)) binds × (at ≡ nowhere)

-- a byte that must stand before what is read
abbrev pub marked : {A : Type 0} → ℕ → Step A → Step A
marked mark item_at = tagged (or_tag mark (made (λ x. x) item_at) no_tag)

-- how many tags stand in one another at most
unfoldable pub most_tags : ℕ
most_tags = 1024

-- the step that reads the declarations of a code
unfoldable pub code_at : Step (List TopDec)
code_at = marked 67 (marked 77 (marked 67 (marked 49 (list_at (topdec_at most_tags)))))

-- all of some bytes, of which nothing is left
abbrev pub whole_unit : List TopDec × List ℕ → Option BareUnit
whole_unit (topdecs, []) = Some (record { file = []; topdecs = topdecs })
whole_unit (topdecs, b ∷ rest) = None

-- the unit whose code these bytes are
unfoldable pub unit_of : List ℕ → Option BareUnit
unit_of bytes = code_at bytes >>= whole_unit

-- a unit that has a code, and stands nowhere: no file is named, each text and list has a length of four bytes, each
-- body that is to be a sequence is one, and at most 1,024 tags stand in one another
pub record IsRead (unit : BareUnit) : Type 0 where
  pub file : unit.file ≡ []
  pub topdecs : AreAll (IsTopDec most_tags) unit.topdecs
