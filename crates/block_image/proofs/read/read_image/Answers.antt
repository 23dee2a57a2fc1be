use Rattle.std.proofs.Common.{◌≡◌, ◌-◌, length, drop, ap, sym, ◌∙◌, refl, arith}
use Rattle.std.proofs.lemmas.List.{take_rest, length-drop}
use Rattle.sha2.specs.Sha256.{sha256}
use Rattle.block_image.proofs.Fields.{same_word}
use Rattle.block_image.proofs.Faults.{no_fault, differ, agree}
use Rattle.block_image.proofs.read.read_image.Goals as goal

pub returns-in_err-check_head-clause-reads : goal.returns-in_err-check_head-clause-reads
returns-in_err-check_head-clause-reads c = λ stamp content is. absurd (no_fault _ content stamp _ is c.in_err-check_head.ensures.err)

pub returns-then-ne-clause-err : goal.returns-then-ne-clause-err
returns-then-ne-clause-err c = record {
  well = c.in_ok-check_head.ensures.ok;
  kept_is = c.kept_digest-kept.ensures;
  found_is = c.digest-found.ensures ∙ ap sha256 (take_rest c.args.bytes.now 53);
  other = differ c.kept_digest-kept.result c.digest-found.result c.if-ne.ensures;
}

pub returns-then-ne-clause-reads : goal.returns-then-ne-clause-reads
returns-then-ne-clause-reads c = λ stamp content is.
    let same : c.kept_digest-kept.result ≡ c.digest-found.result =
    c.kept_digest-kept.ensures ∙ is.digest ∙ is.stamped.digested ∙ ap sha256 (sym is.rest) ∙ sym (c.digest-found.ensures ∙ ap sha256 (take_rest c.args.bytes.now 53)) in
    absurd (differ c.kept_digest-kept.result c.digest-found.result c.if-ne.ensures same)

pub returns-clause-ok : goal.returns-clause-ok
returns-clause-ok c =
    let bytes = c.args.bytes.now in
    let head = c.in_ok-check_head.ensures.ok in
    let long : length (drop 53 bytes) ≡ length bytes - 53 = length-drop 53 bytes in
    record {
      magic = head.magic;
      version = head.version;
      user = c.word_at.ensures;
      block = c.long_at.ensures;
      count = c.word_at-2.ensures;
      digest = sym c.kept_digest-kept.ensures;
      rest = refl;
      user_fits = c.word_at.type_inv;
      block_fits = c.long_at.type_inv;
      some = omega (arith, long, head.some);
      within = omega (arith, long, head.within);
      stamped = record {
        counted = same_word c.word_at-2.result (length bytes - 53) c.word_at-2.type_inv (omega (arith, c.requires)) (sym c.word_at-2.ensures ∙ head.count) ∙ sym long;
        digested = agree c.kept_digest-kept.result c.digest-found.result c.if-ne.ensures ∙ c.digest-found.ensures ∙ ap sha256 (take_rest bytes 53);
      };
    }
