-- What a binding of names and types becomes has names that fit, if its names and types have.
use Rattle.std.proofs.Common.{◌≡◌, true, List, [], ◌∷◌, refl, map}
use Rattle.std.specs.List.{list_all}
use Rattle.sml_trees.specs.declared.full_ty.FullTypBind.{FullTypBind}
use Rattle.sml_trees.specs.declared.full_ty.FullExBind.{FullExBind}
use Rattle.sml_trees.specs.declared.full_ty.FullExBody.{FullExBody}
use Rattle.sml_trees.specs.declared.full_ty.FullExBody.TheVariants as body
use Rattle.bare_forms.specs.Types.{bare_typ_bind, bare_ex_body, bare_ex_bind}
use Rattle.body_laws.proofs.Signatures.{Each, each-all, both-true}
use Rattle.fitting_names.specs.Names.{name_fits, names_typ_bind, names_ex_body, names_ex_bind}
use Rattle.fitting_names.proofs.Nodes.{FitName, FitLong}
use Rattle.fitting_names.proofs.TyForms.{TyIs}

pub record TypBindIs (bind : FullTypBind) : Type 0 where
  pub tyvars : Each FitName bind.tyvars
  pub name : FitName bind.name
  pub ty : TyIs bind.ty

pub typs_are : (binds : List FullTypBind) → Each TypBindIs binds
    → Each (λ x. names_typ_bind x ≡ true) (map bare_typ_bind binds)
typs_are [] all = tt
typs_are (bind ∷ binds) all = (
  both-true (list_all name_fits bind.tyvars) _ (each-all name_fits bind.tyvars all.0.tyvars)
      (both-true (name_fits bind.name) _ all.0.name all.0.ty),
  typs_are binds all.1,
)

abbrev pub ExBodyIs : FullExBody → Type 0
ExBodyIs body.Plain = Unit {0}
ExBodyIs (body.Of ty) = TyIs ty
ExBodyIs (body.Copy long) = FitLong long.long

ex_body_is : (found : FullExBody) → ExBodyIs found → names_ex_body (bare_ex_body found) ≡ true
ex_body_is body.Plain is = refl
ex_body_is (body.Of ty) is = is
ex_body_is (body.Copy long) is = is

pub record ExBindIs (bind : FullExBind) : Type 0 where
  pub name : FitName bind.name.name
  pub body : ExBodyIs bind.body

pub exs_are : (binds : List FullExBind) → Each ExBindIs binds
    → Each (λ x. names_ex_bind x ≡ true) (map bare_ex_bind binds)
exs_are [] all = tt
exs_are (bind ∷ binds) all = (
  both-true (name_fits bind.name.name) _ all.0.name (ex_body_is bind.body all.0.body),
  exs_are binds all.1,
)
