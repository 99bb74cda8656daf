-- Bare signature expressions and specifications as data, with a clause for each form; and which of them a bare tree is.
use Rattle.std.specs.Prelude.{List, [], ◌∷◌, map}
use Rattle.sml_trees.specs.declared.name.At.{At}
use Rattle.sml_trees.specs.declared.name.Name.{Name}
use Rattle.sml_trees.specs.declared.name.LongName.{LongName}
use Rattle.sml_trees.specs.declared.ty.TypDesc.{TypDesc}
use Rattle.sml_trees.specs.declared.ty.ValDesc.{ValDesc}
use Rattle.sml_trees.specs.declared.sig_exp.SigExp.{SigExp}
use Rattle.sml_trees.specs.declared.sig_exp.SigExp.TheOpen.{SigExp-F, Spec-F, SigBind-F}
use Rattle.sml_trees.specs.declared.sig_exp.SigExp.TheFolds.{fold-SigExp, fold-Spec}
use Rattle.sml_trees.specs.declared.sig_exp.Spec.{Spec}
use Rattle.bare_phrases.specs.Phrases.{TyPhrase, ConPhrase, DatPhrase}
use Rattle.bare_phrases.specs.PhraseOf.{ty_phrase, con_phrase, dat_phrase}

-- `name : ty`
pub record ValPhrase : Type 0 where
  pub name : Name
  pub ty : TyPhrase

-- `tyvars name`
pub record TypeDescPhrase : Type 0 where
  pub tyvars : List Name
  pub name : Name

mutual
  pub data SigPhrase : Type 0 where
    Sig : SpecPhrase → At → SigPhrase
    Named : Name → At → SigPhrase
    -- `sig where type tyvars long = ty`
    Where : SigPhrase → List Name → LongName → TyPhrase → At → SigPhrase

  pub data SpecPhrase : Type 0 where
    Vals : List ValPhrase → At → SpecPhrase
    Types : List TypeDescPhrase → At → SpecPhrase
    Eqtypes : List TypeDescPhrase → At → SpecPhrase
    Datatypes : List DatPhrase → At → SpecPhrase
    Replication : Name → LongName → At → SpecPhrase
    Exceptions : List ConPhrase → At → SpecPhrase
    Structures : SigBinds → At → SpecPhrase
    Include : SigPhrase → At → SpecPhrase
    Sequence : SpecPhrases → At → SpecPhrase

  pub data SigBinds : Type 0 where
    EndOfBinds : SigBinds
    Bind : Name → SigPhrase → SigBinds → SigBinds

  pub data SpecPhrases : Type 0 where
    EndOfSpecs : SpecPhrases
    Next : SpecPhrase → SpecPhrases → SpecPhrases

-- ---- which phrase a bare tree is

abbrev pub val_phrase : ValDesc → ValPhrase
val_phrase desc = record { name = desc.name; ty = ty_phrase desc.ty }

abbrev pub type_desc_phrase : TypDesc → TypeDescPhrase
type_desc_phrase desc = record { tyvars = desc.tyvars; name = desc.name }

abbrev pub sig_binds : List (Name × SigPhrase) → SigBinds
sig_binds [] = SigBinds.EndOfBinds
sig_binds (bind ∷ binds) = SigBinds.Bind bind.0 bind.1 (sig_binds binds)

abbrev pub spec_phrases : List SpecPhrase → SpecPhrases
spec_phrases [] = SpecPhrases.EndOfSpecs
spec_phrases (spec ∷ specs) = SpecPhrases.Next spec (spec_phrases specs)

abbrev pub sig_level : SigExp-F SigPhrase SpecPhrase (Name × SigPhrase) → SigPhrase
sig_level (SigExp-F.Sig spec at) = SigPhrase.Sig spec at
sig_level (SigExp-F.Named name at) = SigPhrase.Named name at
sig_level (SigExp-F.Where sig tyvars long ty at) = SigPhrase.Where sig tyvars long (ty_phrase ty) at

abbrev pub spec_level : Spec-F SigPhrase SpecPhrase (Name × SigPhrase) → SpecPhrase
spec_level (Spec-F.Vals descs at) = SpecPhrase.Vals (map val_phrase descs) at
spec_level (Spec-F.Types descs at) = SpecPhrase.Types (map type_desc_phrase descs) at
spec_level (Spec-F.Eqtypes descs at) = SpecPhrase.Eqtypes (map type_desc_phrase descs) at
spec_level (Spec-F.Datatypes binds at) = SpecPhrase.Datatypes (map dat_phrase binds) at
spec_level (Spec-F.Replication name long at) = SpecPhrase.Replication name long at
spec_level (Spec-F.Exceptions cons at) = SpecPhrase.Exceptions (map con_phrase cons) at
spec_level (Spec-F.Structures binds at) = SpecPhrase.Structures (sig_binds binds) at
spec_level (Spec-F.Include sig at) = SpecPhrase.Include sig at
spec_level (Spec-F.Sequence specs at) = SpecPhrase.Sequence (spec_phrases specs) at

abbrev pub sig_bind_level : SigBind-F SigPhrase SpecPhrase (Name × SigPhrase) → Name × SigPhrase
sig_bind_level bind = (bind.name, bind.sig)

unfoldable pub sig_phrase : SigExp → SigPhrase
sig_phrase = fold-SigExp SigPhrase SpecPhrase (Name × SigPhrase) sig_level spec_level sig_bind_level

unfoldable pub spec_phrase : Spec → SpecPhrase
spec_phrase = fold-Spec SigPhrase SpecPhrase (Name × SigPhrase) sig_level spec_level sig_bind_level
