-- Codes of units are read exactly.
use Rattle.std.proofs.Common.{◌≡◌, ℕ, zero, suc, List, [], ◌∷◌, ◌++◌, Option, Some, None, Result, Ok, Err, refl, sym, ap, subst, ◌∙◌}
use Rattle.cm_bytes.specs.Fields.{◌>>=◌, IsBytes, IsReadAgain, list_of}
use Rattle.sml_syntax.specs.Steps.{or_tag, IsExact}
use Rattle.sml_syntax.proofs.Exact.{made_exact, both_exact, list_exact, marked_exact, tagged_spelled, tagged_again, no_tag_spells, or_tag_spells}
use Rattle.sml_syntax.proofs.ReadTy.{name_exact}
use Rattle.std.proofs.lemmas.List.{append-nil}
use Rattle.cm_bytes.proofs.Fields.{bind_some, no_front}
use Rattle.sml_syntax.proofs.ReadSig.{sig_exact, sig_bind_exact}
use Rattle.sml_syntax.proofs.ReadExp.{exp_exact, str_bind_exact}
use Rattle.sml_syntax.specs.Code.{code_of, fun_bind_of, funsig_bind_of, topdec_of}
use Rattle.sml_syntax.specs.Reading.{nowhere, AreAll}
use Rattle.sml_syntax.specs.ReadingUnit.{fun_bind_at, IsFunBind, funsig_bind_at, IsFunsigBind, topdec_table, topdec_at, IsTopDec, most_tags, code_at, whole_unit, unit_of, IsRead}
use Rattle.sml_syntax.specs.Took.{IsUnitOf, ReadsCode}
use Rattle.sml_syntax.specs.declared.fault.CodeFault.{CodeFault}
use Rattle.sml_syntax.specs.declared.fault.CodeFault.TheVariants as fault
use Rattle.sml_trees.specs.declared.name.At.{At}
use Rattle.sml_trees.specs.declared.name.Name.{Name}
use Rattle.sml_trees.specs.declared.sig_exp.SigExp.{SigExp}
use Rattle.sml_trees.specs.declared.sig_exp.SigBind.{SigBind}
use Rattle.sml_trees.specs.declared.exp.StrExp.{StrExp}
use Rattle.sml_trees.specs.declared.exp.StrBind.{StrBind}
use Rattle.sml_trees.specs.declared.unit.TopDec.{TopDec}
use Rattle.sml_trees.specs.declared.unit.TopDec.TheVariants as top
use Rattle.sml_trees.specs.declared.unit.FunBind.{FunBind}
use Rattle.sml_trees.specs.declared.unit.FunsigBind.{FunsigBind}
use Rattle.sml_trees.specs.declared.unit.BareUnit.{BareUnit}

pub fun_bind_exact : (n : ℕ) → IsExact fun_bind_of (fun_bind_at n) (IsFunBind n)
unfolding fun_bind_at
fun_bind_exact n =
    made_exact fun_bind_of (IsFunBind n) (λ (p : (Name × (Name × (SigExp × StrExp)))). record { name = p.0; param = p.1.0; param_sig = p.1.1.0; body = p.1.1.1 })
    (λ (bind : FunBind). (bind.name, (bind.param, (bind.param_sig, bind.body)))) (both_exact name_exact (both_exact name_exact (both_exact (sig_exact n).sig (exp_exact n).str)))
    (λ p fits. refl) (λ p fits. fits) (λ bind is. (refl, is))

pub funsig_bind_exact : (n : ℕ) → IsExact funsig_bind_of (funsig_bind_at n) (IsFunsigBind n)
unfolding funsig_bind_at
funsig_bind_exact n =
    made_exact funsig_bind_of (IsFunsigBind n) (λ (p : (Name × (Name × (SigExp × SigExp)))). record { name = p.0; param = p.1.0; param_sig = p.1.1.0; result_sig = p.1.1.1 })
    (λ (bind : FunsigBind). (bind.name, (bind.param, (bind.param_sig, bind.result_sig)))) (both_exact name_exact (both_exact name_exact (both_exact (sig_exact n).sig (sig_exact n).sig)))
    (λ p fits. refl) (λ p fits. fits) (λ bind is. (refl, is))

topdec_exact : (n : ℕ) → IsExact topdec_of (topdec_at n) (IsTopDec n)
unfolding or_tag
topdec_exact zero = record {
  again = λ x fits. absurd fits;
  spelled = record { takes = λ bytes x rest h e. absurd cc; fits = λ bytes x rest h e. absurd cc };
}
topdec_exact (suc n) = record {
  again = level;
  spelled = tagged_spelled (
      or_tag_spells 128 (λ (p : (List StrBind)). top.Structures p nowhere) (list_exact (str_bind_exact n (exp_exact n))) (λ p. refl) (λ p fits. (fits, refl)) (
      or_tag_spells 129 (λ (p : (List SigBind)). top.Signatures p nowhere) (list_exact (sig_bind_exact n (sig_exact n))) (λ p. refl) (λ p fits. (fits, refl)) (
      or_tag_spells 130 (λ (p : (List FunBind)). top.Functors p nowhere) (list_exact (fun_bind_exact n)) (λ p. refl) (λ p fits. (fits, refl)) (
      or_tag_spells 131 (λ (p : (List FunsigBind)). top.Funsigs p nowhere) (list_exact (funsig_bind_exact n)) (λ p. refl) (λ p fits. (fits, refl)) (no_tag_spells topdec_of (IsTopDec (suc n)))))));
}
  where
    level : (x : TopDec) → IsTopDec (suc n) x → IsReadAgain topdec_of (topdec_at (suc n)) x
    level (top.Structures binds at) fits =
        subst (λ (at : At). IsReadAgain topdec_of (topdec_at (suc n)) (top.Structures binds at)) (sym fits.1)
        (tagged_again topdec_of (topdec_table n) 128 (λ (p : (List StrBind)). top.Structures p nowhere) (list_exact (str_bind_exact n (exp_exact n))) binds fits.0 refl refl)
    level (top.Signatures binds at) fits =
        subst (λ (at : At). IsReadAgain topdec_of (topdec_at (suc n)) (top.Signatures binds at)) (sym fits.1)
        (tagged_again topdec_of (topdec_table n) 129 (λ (p : (List SigBind)). top.Signatures p nowhere) (list_exact (sig_bind_exact n (sig_exact n))) binds fits.0 refl refl)
    level (top.Functors binds at) fits =
        subst (λ (at : At). IsReadAgain topdec_of (topdec_at (suc n)) (top.Functors binds at)) (sym fits.1)
        (tagged_again topdec_of (topdec_table n) 130 (λ (p : (List FunBind)). top.Functors p nowhere) (list_exact (fun_bind_exact n)) binds fits.0 refl refl)
    level (top.Funsigs binds at) fits =
        subst (λ (at : At). IsReadAgain topdec_of (topdec_at (suc n)) (top.Funsigs binds at)) (sym fits.1)
        (tagged_again topdec_of (topdec_table n) 131 (λ (p : (List FunsigBind)). top.Funsigs p nowhere) (list_exact (funsig_bind_exact n)) binds fits.0 refl refl)

abbrev list_code : List TopDec → List ℕ
list_code topdecs = 67 ∷ 77 ∷ 67 ∷ 49 ∷ list_of topdec_of topdecs

code_exact : IsExact list_code code_at (AreAll (IsTopDec most_tags))
unfolding code_at
code_exact = marked_exact 67 (marked_exact 77 (marked_exact 67 (marked_exact 49 (list_exact (topdec_exact most_tags)))))

pub unit_again : (unit : BareUnit) → IsRead unit → unit_of (code_of unit) ≡ Some unit
unfolding code_of unit_of
unit_again unit is =
    let read = (code_exact.again unit.topdecs is.topdecs).again [] in
    ap (λ (bytes : List ℕ). code_at bytes >>= whole_unit) (sym (append-nil (list_code unit.topdecs)))
    ∙ ap (λ (r : Option (List TopDec × List ℕ)). r >>= whole_unit) read
    ∙ ap (λ (file : List ℕ). Some (record { file = file; topdecs = unit.topdecs })) (sym is.file)

whole_is : (topdecs : List TopDec) (rest : List ℕ) (unit : BareUnit) → whole_unit (topdecs, rest) ≡ Some unit
    → (rest ≡ []) × (unit ≡ record { file = []; topdecs = topdecs })
whole_is topdecs [] unit e = (refl, cc)
whole_is topdecs (b ∷ rest) unit e = absurd cc

pub unit_spelled : (bytes : List ℕ) (unit : BareUnit) → IsBytes bytes → unit_of bytes ≡ Some unit
    → (code_of unit ≡ bytes) × IsRead unit
unfolding code_of unit_of
unit_spelled bytes unit h e =
    let one = bind_some (code_at bytes) whole_unit unit e in
    let topdecs = one.0.0 in
    let rest = one.0.1 in
    let end = whole_is topdecs rest unit one.2 in
    let takes = code_exact.spelled.takes bytes topdecs rest h one.1 in
    let fits = code_exact.spelled.fits bytes topdecs rest h one.1 in
    let made : BareUnit = record { file = []; topdecs = topdecs } in
    let spelled : list_code topdecs ≡ bytes =
    sym (takes.parts ∙ ap (λ (r : List ℕ). list_code topdecs ++ r) end.0 ∙ append-nil (list_code topdecs)) in
    let is : IsRead made = record { file = refl; topdecs = fits } in
    subst (λ (u : BareUnit). (list_code u.topdecs ≡ bytes) × IsRead u) (sym end.1) (spelled, is)

pub unit_front : (a b : BareUnit) (more : List ℕ) → IsRead a → IsRead b → code_of a ++ more ≡ code_of b
    → (a ≡ b) × (more ≡ [])
unfolding code_of
unit_front a b more is_a is_b e =
    let both = no_front list_code code_at a.topdecs b.topdecs more
    (code_exact.again a.topdecs is_a.topdecs) (code_exact.again b.topdecs is_b.topdecs) e in
    let same : a ≡ b =
    ap (λ (file : List ℕ). record { file = file; topdecs = a.topdecs }) (is_a.file ∙ sym is_b.file)
    ∙ ap (λ (topdecs : List TopDec). record { file = b.file; topdecs = topdecs }) both.0 in
    (same, both.1)

-- what is read from the bytes has them as its code, and where nothing is they are no code
pub reads_code : (bytes : List ℕ) (r : Result BareUnit CodeFault) → IsBytes bytes → IsUnitOf bytes r → ReadsCode bytes r
reads_code bytes (Ok unit) h is = unit_spelled bytes unit h is
reads_code bytes (Err fault.BadCode) h is = λ unit read spelled.
    let found : unit_of bytes ≡ Some unit = subst (λ (code : List ℕ). unit_of code ≡ Some unit) spelled (unit_again unit read) in
    let none : None ≡ Some unit = sym is ∙ found in
    absurd cc
reads_code bytes (Err fault.NoMemory) h is = tt
