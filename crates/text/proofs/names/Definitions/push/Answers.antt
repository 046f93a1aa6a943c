use Rattle.std.proofs.Common.{◌≡◌, ◌∙◌, ◌++◌, ◌∷◌, [], ap, sym, List}
use Rattle.text.specs.declared.names.Definition.{Definition}
use Rattle.text.specs.Names.{defined}
use Rattle.text.proofs.NameLemmas.{defined_with}
use Rattle.text.proofs.names.Definitions.push.Goals as goal

pub invariant_of-self-2 : goal.invariant_of-self-2
invariant_of-self-2 c n h =
    let all : c.push_reserved.new.self.items ≡ c.self.inside.list.items ++ record { name = c.args.name; number = c.args.number } ∷ [] =
    c.push_reserved.ensures.items ∙ ap (λ (l : List Definition). l ++ record { name = c.args.name; number = c.args.number } ∷ []) c.in_ok-reserve.ensures.items in
    c.in_ok-index.ensures.ok n h ∙ defined_with n c.self.inside.list.items (record { name = c.args.name; number = c.args.number }) _ (c.self.invariant n h) ∙ ap (defined n) (sym all)
