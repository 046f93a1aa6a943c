use Rattle.std.proofs.Common.{◌≡◌, ◌≢◌, ◌-◌, ◌∙◌, ◌++◌, [], Bool, List, ℕ, ap, false, length, refl, true, subst, sym, take}
use Rattle.std.specs.Prelude.{◌||◌}
use Rattle.std.specs.List.{list_any}
use Rattle.std.proofs.lemmas.List.Elements.{All-take}
use Rattle.text.specs.Words.{words}
use Rattle.naming.specs.Keys.{is_no_key, key_named, keys_from, keys_named}
use Rattle.naming.specs.Lines.{IsOneLine, IsToldIf}
use Rattle.naming.specs.Sets.{behind_second}
use Rattle.naming.proofs.KeyLemmas.{front_of, keys_all, keys_more, keys_of}
use Rattle.naming.proofs.LineLemmas.{behind_second_one_line, both_one_line, front_one_line, parts_one_line, rest_one_line}
use Rattle.naming.proofs.ToldLemmas.{told_then}
use Rattle.naming.proofs.key_line.key_line.Goals as goal

or_assoc : (a b c : Bool) → ((a || b) || c) ≡ (a || (b || c))
or_assoc true b c = refl
or_assoc false b c = refl

or_false : (a : Bool) → (a || false) ≡ a
or_false true = refl
or_false false = refl

pub loop-separators-init : goal.loop-separators-init
loop-separators-init c =
    let line = c.args.line.now in
    let code = c.split_comment.result.0.now in
    let keys : c.behind_second-keys.result.now ≡ behind_second code = c.behind_second-keys.ensures in
    let text : c.extend_from_slice.new.self.items ≡ take (length code - length (behind_second code)) code =
    c.in_ok-extend_from_slice.ensures.items ∙ ap (λ (x : List ℕ). x ++ c.split_at.result.0.now) c.new-text.ensures.items ∙ c.split_at.ensures.front ∙ ap (λ (k : List ℕ). take (length code - length k) code) keys in
    let one_code = λ (one : IsOneLine line). front_one_line line code c.split_comment.result.1.now c.split_comment.ensures.whole one in
    record {
      items = rw (text, keys, c.split_comment.ensures.front) refl;
      text = λ one. subst IsOneLine (sym text) (All-take (λ b. b ≢ 10) _ code (one_code one));
      rest = λ one. subst IsOneLine (sym keys) (behind_second_one_line code (one_code one));
      told = (false, refl, rw (keys, c.split_comment.ensures.front) refl);
    }

pub loop-separators-preserved : goal.loop-separators-preserved
loop-separators-preserved c =
    let so_far = c.loop-separators.invariant in
    let rest = c.loop-separators.rest.now in
    let parts = λ (h : IsOneLine c.args.line.now). parts_one_line rest c.in-Some.separators.now c.in-Some.word.now c.in-Some.more.now c.in-Some.ensures.whole (so_far.rest h) in
    let out = c.in_ok-push_word.ensures.items ∙ ap (λ (x : List ℕ). x ++ key_named c.in-Some.word.now) c.in_ok-extend_from_slice-2.ensures.items in
    record {
      items = keys_more c.loop-separators.text.items rest c.in-Some.separators.now c.in-Some.word.now c.in-Some.more.now (front_of c.args.line.now ++ keys_from [] (keys_of c.args.line.now)) c.push_word.new.text.items c.in-Some.ensures.whole c.in-Some.ensures.first.0 c.in-Some.ensures.first.1 out so_far.items;
      text = λ h. c.in_ok-push_word.ensures.one_line
          (subst IsOneLine (sym c.in_ok-extend_from_slice-2.ensures.items) (both_one_line c.loop-separators.text.items c.in-Some.separators.now (so_far.text h) (parts h).0)) (parts h).1;
      rest = λ h. (parts h).2;
      told =
          let (refused, told, is) = so_far.told in
          let other = is_no_key c.in-Some.word.now in (
            refused || other,
            told_then refused other c.args.told.now c.loop-separators.told c.push_word.new.told told c.push_word.ensures.told,
            or_assoc refused other (list_any is_no_key (words c.in-Some.more.now)) ∙ rw c.in-Some.ensures.words at is,
          );
    }

pub returns-clause-items : goal.returns-clause-items
returns-clause-items c =
    keys_all c.args.line.now c.split_comment.result.0.now c.loop-separators.text.items c.loop-separators.rest.now c.split_comment.result.1.now c.extend_from_slice-3.new.self.items c.loop-separators.invariant.items
    c.in_default.ensures.first c.split_comment.ensures.front c.split_comment.ensures.whole
    (c.in_ok-extend_from_slice-4.ensures.items ∙ ap (λ (x : List ℕ). x ++ c.split_comment.result.1.now) c.in_ok-extend_from_slice-3.ensures.items)

pub returns-clause-one_line : goal.returns-clause-one_line
returns-clause-one_line c = λ h.
    let so_far = c.loop-separators.invariant in
    let comment = rest_one_line c.args.line.now c.split_comment.result.0.now c.split_comment.result.1.now c.split_comment.ensures.whole h in
    let code : IsOneLine c.extend_from_slice-2.new.self.items =
    subst IsOneLine (sym c.in_ok-extend_from_slice-3.ensures.items) (both_one_line c.loop-separators.text.items c.loop-separators.rest.now (so_far.text h) (so_far.rest h)) in
    subst IsOneLine (sym c.in_ok-extend_from_slice-4.ensures.items) (both_one_line c.extend_from_slice-2.new.self.items c.split_comment.result.1.now code comment)

pub returns-clause-told : goal.returns-clause-told
unfolding keys_named
returns-clause-told c =
    let (refused, told, is) = c.loop-separators.invariant.told in
    let all : refused ≡ list_any is_no_key (words (keys_of c.args.line.now)) = sym (or_false refused) ∙ rw c.in_default.ensures.words at is in
    subst (λ b. IsToldIf b c.args.told.now c.loop-separators.told) all told
