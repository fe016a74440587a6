-- The extensions that were yielded stand in the list.
use Rattle.std.proofs.Common.{◌≡◌, length, drop, refl, subst, arith, rules}
use Rattle.std.proofs.lemmas.List.Elements.{All-push}
use Rattle.tls.proofs.lemmas.Walks.{walk, first, none}
use Rattle.tls.specs.Hello.{HasNoServer}
use Rattle.tls.proofs.first_server.Goals as goal

pub loop-extension-preserved : goal.loop-extension-preserved
loop-extension-preserved c =
    All-push HasNoServer c.loop-extension.yielded c.in-Some.extension c.loop-extension.invariant
    c.in_default-server_of.ensures.none

pub returns-in-Some-server_of-clause-some : goal.returns-in-Some-server_of-clause-some
returns-in-Some-server_of-clause-some c =
    first _ c.args.list.now.order c.args.list.now.bytes.now c.loop-extension.yielded
    c.values-values.result c.loop-extension.values c.next.new.self c.in-Some.extension
    c.in-Some-server_of.name.now c.below.ensures c.values-values.ensures.bytes
    c.values-values.ensures.order c.loop-extension.yielded_by c.loop-extension.invariant
    c.in-Some.ensures.steps c.in-Some-server_of.ensures.some

pub returns-clause-none : goal.returns-clause-none
returns-clause-none c =
    none _ c.args.list.now.order c.args.list.now.bytes.now c.loop-extension.yielded
    c.values-values.result c.loop-extension.values c.next.new.self c.below.ensures
    c.values-values.ensures.bytes c.values-values.ensures.order c.loop-extension.yielded_by
    c.loop-extension.invariant c.in_default.ensures.steps (search rules)
    c.values-values.ensures.list
