use Rattle.std.proofs.Common.{sym, ◌∙◌, ap, ◌-◌, ◌&&◌, cond, length, map, take, string_bytes}
use Rattle.std.specs.List.{take-map}
use Rattle.rp_words.specs.Words.{is_image, last_of}
use Rattle.rp_words.proofs.Strings.{length-strings}
use Rattle.rp_words.proofs.line.options_in.Goals as goal

pub returns-then-is_image : goal.returns-then-is_image
returns-then-is_image c =
    let words = c.args.words.now in
    let texts = map string_bytes words in
    let last_is = ap is_image (sym c.last.ensures) ∙ sym c.if-is_image.ensures in
    sym (ap (λ b. cond (b && is_image (last_of texts)) (take (length texts - 1) texts) texts) c.if-image.true
    ∙ ap (λ b. cond b (take (length texts - 1) texts) texts) last_is
    ∙ ap (λ n. take (n - 1) texts) (length-strings words) ∙ take-map string_bytes (length words - 1) words)
