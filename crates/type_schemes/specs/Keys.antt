-- What the key of a node tells: all that stands in its symbol. Only private functions cite this file.
use Rattle.semantic_objects.specs.declared.name.Owner.{Owner}
use Rattle.semantic_objects.specs.declared.name.Owner.TheVariants as owner
use Rattle.semantic_objects.specs.declared.name.TyName.{TyName}
use Rattle.semantic_objects.specs.declared.symbol.Symbol.{Symbol}
use Rattle.semantic_objects.specs.declared.symbol.Symbol.TheVariants as symbol
use Rattle.type_schemes.specs.declared.key.OwnerKey.{OwnerKey}
use Rattle.type_schemes.specs.declared.key.OwnerKey.TheVariants as owner_key
use Rattle.type_schemes.specs.declared.key.NameKey.{NameKey}
use Rattle.type_schemes.specs.declared.key.SymbolKey.{SymbolKey}
use Rattle.type_schemes.specs.declared.key.SymbolKey.TheVariants as symbol_key

abbrev pub owner_of : OwnerKey → Owner
owner_of owner_key.Basis = owner.Basis
owner_of (owner_key.«Unit» unit) = owner.«Unit» unit
owner_of owner_key.Bound = owner.Bound

abbrev pub name_of : NameKey → TyName
name_of key = record { owner = owner_of key.owner; number = key.number; arity = key.arity; eq = key.eq }

abbrev pub symbol_of : SymbolKey → Symbol
symbol_of symbol_key.Arrow = symbol.Arrow
symbol_of (symbol_key.Record labels) = symbol.Record labels.items
symbol_of (symbol_key.Name name) = symbol.Name (name_of name)
