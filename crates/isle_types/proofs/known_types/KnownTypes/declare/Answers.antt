use Rattle.std.proofs.Common.{rules, ◌≡◌, refl, true, false, Some, None, ◌++◌, ◌∷◌, []}
use Rattle.std.specs.Prelude.{is_some}
use Rattle.isle_ast.specs.Views.{def}
use Rattle.isle_declarations.specs.Symbols.{index_of, added}
use Rattle.isle_declarations.specs.DeclaredTypes.{DeclaredType, type_of}
use Rattle.isle_types.specs.declared.known_types.KnownTypes.{KnownTypes}
use Rattle.isle_types.specs.TypeNames.{is_primitive}
use Rattle.isle_types.proofs.KnownLaws.{known_other, known_again, known_new}
use Rattle.isle_types.proofs.known_types.KnownTypes.declare.Goals as goal

pub returns-then-branch : goal.returns-then-branch
returns-then-branch c =
    λ before known.
    let t : DeclaredType = record { name = c.in-Some.name.now; body = c.in-Some.body.now } in
    let is : Some t ≡ type_of (def c.args.given.now) = search rules in
    let there : is_some (index_of c.args.self.now.names t.name) ≡ true = search rules in
    let new : KnownTypes = record { names = c.meets.new.before; primitive = c.args.self.now.primitive } in
    let names : new.names ≡ added c.args.self.now.names t.name = search rules in
    known_again before (def c.args.given.now) t c.args.self.now new is there names refl known

pub returns-in_ok-push : goal.returns-in_ok-push
returns-in_ok-push c =
    λ before known.
    let t : DeclaredType = record { name = c.in-Some.name.now; body = c.in-Some.body.now } in
    let is : Some t ≡ type_of (def c.args.given.now) = search rules in
    let absent : is_some (index_of c.args.self.now.names t.name) ≡ false = search rules in
    let valued : c.is_primitive.result ≡ is_primitive t.body = search rules in
    let new : KnownTypes = record { names = c.meets.new.before; primitive = c.push.new.self } in
    let names : new.names ≡ added c.args.self.now.names t.name = search rules in
    let values : new.primitive.items ≡ c.args.self.now.primitive.items ++ c.is_primitive.result ∷ [] = search rules in
    known_new before (def c.args.given.now) t c.args.self.now new c.is_primitive.result is valued absent names values known

pub returns-in_default : goal.returns-in_default
returns-in_default c =
    λ before known.
    let none : type_of (def c.args.given.now) ≡ None = search rules in
    known_other before (def c.args.given.now) c.args.self.now none known
