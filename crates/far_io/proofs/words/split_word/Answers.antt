use Rattle.std.proofs.Common.{◌+◌, ◌<◌, length, subst, arith}
use Rattle.std.proofs.lemmas.List.{take_all, take_rest}
use Rattle.far_io.specs.Words.{HasNoSpace}
use Rattle.far_io.proofs.WordLaws.{words_of-word, words_of-parted}
use Rattle.far_io.proofs.words.split_word.Goals as goal

pub returns-then-end-line-clause-words : goal.returns-then-end-line-clause-words
returns-then-end-line-clause-words c =
    let end = c.find_space-end in
    words_of-word c.args.line.now (subst HasNoSpace (take_all end.result c.args.line.now (omega (arith, c.if-end-line.true))) end.ensures.before)

pub returns-clause-words : goal.returns-clause-words
returns-clause-words c =
    let end = c.find_space-end in
    let here : end.result < length c.args.line.now = omega (arith, end.ensures.within, c.if-end-line.false) in
    rw (take_rest c.args.line.now (end.result + 1)) (words_of-parted c.args.line.now end.result here end.ensures.before (end.ensures.here here))
