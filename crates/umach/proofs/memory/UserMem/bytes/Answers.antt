use Rattle.std.proofs.Common.{◌≡◌, ◌+◌, ◌-◌, ◌∙◌, ◌++◌, min, ap, sym, refl, List, ℤ, length, take, drop}
use Rattle.std.specs.Prelude.{map, replicate}
use Rattle.posix.specs.Common.{bytes_in, low_byte}
use Rattle.umach.proofs.ByteLemmas.{kept_span, span_bytes}
use Rattle.umach.proofs.memory.UserMem.bytes.Goals as goal

pub returns : goal.returns
unfolding bytes_in
returns c =
    let a = c.args.span.address in
    let n = c.args.span.count in
    let words = c.self.inside.words.items in
    let len : c.len-kept.result ≡ length words = c.len-kept.ensures ∙ sym c.deref.ensures.len ∙ ap length c.deref.ensures.value in
    let first : c.min.result ≡ min a (length words) = c.min.ensures ∙ ap (λ k. min k c.len-kept.result) c.from-first.ensures ∙ ap (min a) len in
    let end : c.min-2.result ≡ min (a + n) (length words) = c.min-2.ensures ∙ ap (λ k. min k c.len-kept.result) (ap (λ k. k + c.from.result) c.from-first.ensures ∙ ap (λ k. a + k) c.from.ensures) ∙ ap (min (a + n)) len in
    let spanned : take (c.min-2.result - c.min.result) (drop c.min.result c.deref.result.now) ≡ take n (drop a words) =
    ap (λ k. take (k - c.min.result) (drop c.min.result c.deref.result.now)) end ∙ ap (λ k. take (min (a + n) (length words) - k) (drop k c.deref.result.now)) first
    ∙ ap (λ (ws : List ℤ). take (min (a + n) (length words) - min a (length words)) (drop (min a (length words)) ws)) c.deref.ensures.value ∙ kept_span a n words in
    let kept : c.low_bytes-bytes.result ≡ map low_byte (take n (drop a words)) ++ replicate (16 - length (take n (drop a words))) 0 =
    c.low_bytes-bytes.ensures ∙ ap (λ (ws : List ℤ). map low_byte ws ++ replicate (16 - length ws) 0) spanned in
    c.new.ensures ∙ ap (take c.from-2.result) kept ∙ ap (λ k. take k (map low_byte (take n (drop a words)) ++ replicate (16 - length (take n (drop a words))) 0)) c.from-2.ensures
    ∙ span_bytes low_byte a n words refl c.requires.few c.requires.within c.self.invariant.0
    ∙ ap (λ (ws : List ℤ). map low_byte (take n (drop a ws))) c.self.view_is
