use Rattle.std.proofs.Common.{rules, ◌≡◌, ◌⊎◌, codes, inl}
use Rattle.std.proofs.lemmas.Result.{IfOk-weaker}
use Rattle.std.specs.Option.{option_map_or}
use Rattle.refusing.specs.Texts.{input_of}
use Rattle.commands.specs.Named.{in_folder, said}
use Rattle.commands.proofs.named.serve_place.Goals as goal
use Rattle.commands.proofs.named.serve_place.Goals.{in-Some, in-None}

pub returns-clause-ok : goal.returns-clause-ok
returns-clause-ok g c =
    let texts = c.in-Ok.texts in
    let place = said c.args.place in
    let world_name : (texts.world.name.now ≡ place.world) ⊎ (texts.world.name.now ≡ in_folder place.world (codes "world")) =
    elim c.match-place.branch [ in-Some w ↦ search rules | in-None w ↦ search rules ] in
    let events_name : texts.events.name.now ≡ option_map_or (λ e. e) place.events (in_folder place.world (codes "events")) =
    elim c.match-place.branch [ in-Some w ↦ search rules | in-None w ↦ search rules ] in
    IfOk-weaker c.serve_texts.result _ _ (λ status served. inl (record {
      world = input_of texts.world;
      events = input_of texts.events;
      world_name = world_name;
      events_name = events_name;
      of_world = c.in-Ok.ensures.ok.0;
      of_events = c.in-Ok.ensures.ok.1;
      served = served;
    })) c.serve_texts.ensures.ok
