use Rattle.std.proofs.Common.{◌≡◌, ◌∙◌, ◌+◌, ◌<◌, ℕ, List, Bor, ap, sym, fold, map, get_or, length, take}
use Rattle.std.proofs.lemmas.List.{map_more}
use Rattle.std.proofs.lemmas.List.Sums.{fold_push}
use Rattle.clap.specs.Words.{App, Text, with_rule}
use Rattle.clap.specs.declared.builder.action.ArgAction.{ArgAction}
use Rattle.inputs.specs.Words.{option_rule, with_option}
use Rattle.inputs.proofs.words.command.Goals as goal

one_more : (options : List (Bor Text × ArgAction)) (i : ℕ) (d : Bor Text × ArgAction) (files old new : App) → i < length options
    → old ≡ fold with_option files (map (λ (o : Bor Text × ArgAction). (o.0.now, o.1)) (take i options))
    → new ≡ with_rule old (option_rule ((get_or options i d).0.now, (get_or options i d).1))
    → new ≡ fold with_option files (map (λ (o : Bor Text × ArgAction). (o.0.now, o.1)) (take (i + 1) options))
one_more options i d files old new within before is =
    is
    ∙ ap (λ a. with_rule a (option_rule ((get_or options i d).0.now, (get_or options i d).1))) before
    ∙ sym (ap (fold with_option files) (map_more (λ (o : Bor Text × ArgAction). (o.0.now, o.1)) options i d within)
    ∙ fold_push with_option files (map (λ (o : Bor Text × ArgAction). (o.0.now, o.1)) (take i options)) ((get_or options i d).0.now, (get_or options i d).1))

pub loop-name-preserved : goal.loop-name-preserved
loop-name-preserved c =
    one_more c.args.options.now c.loop-name.name-index _ _ _ _ c.loop-name-test.true c.loop-name.invariant
    (c.in_ok-command-2.ensures.shape c.option.ensures.local ∙ ap (with_rule _) c.option.ensures.rule)
