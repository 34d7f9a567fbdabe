use mathlib.Core.Path.{refl}
use lib.ListN.{get_or}
use Rattle.std.proofs.lemmas.Result.{err_from_is_err_and}
use Rattle.extern_fixing.proofs.Externalizing.{goes-apart, no-layer, kept-as-it-is, refused-here, refused-inside, made_inside}
use Rattle.extern_fixing.proofs.externalize.+externalize_type.Goals as goal

pub returns-in_err-externalize_type-in-len3-up-clause-answer : goal.returns-in_err-externalize_type-in-len3-up-clause-answer
returns-in_err-externalize_type-in-len3-up-clause-answer t c = let p = err_from_is_err_and c.from_residual.result c.from_residual.ensures.1 in rw (p.1, p.2) (refused-inside _ _ c.args.made.now c.in-len3-up.len_at_least _ refl (goes-apart (get_or c.args.t.now 0 0) _ c.goes_inside.ensures c.if-goes_inside.true) _ c.goes_inside.ensures c.if-goes_inside.true _ c.externalize_type.ensures.buffer _ _ c.in_err-externalize_type-in-len3-up.ensures.answer).0

pub returns-in_err-externalize_type-in-len3-up-clause-buffer : goal.returns-in_err-externalize_type-in-len3-up-clause-buffer
returns-in_err-externalize_type-in-len3-up-clause-buffer t c = (refused-inside _ _ c.args.made.now c.in-len3-up.len_at_least _ refl (goes-apart (get_or c.args.t.now 0 0) _ c.goes_inside.ensures c.if-goes_inside.true) _ c.goes_inside.ensures c.if-goes_inside.true _ c.externalize_type.ensures.buffer _ _ c.in_err-externalize_type-in-len3-up.ensures.answer).1

pub returns-in-len3-up-2-clause-answer : goal.returns-in-len3-up-2-clause-answer
returns-in-len3-up-2-clause-answer t c = (kept-as-it-is _ _ c.args.made.now c.in-len3-up.len_at_least _ c.is_kept.ensures _ c.requires.whole c.if-is_kept.true c.write_words-in-len3-up-2.ensures).0

pub returns-in-len3-up-2-clause-buffer : goal.returns-in-len3-up-2-clause-buffer
returns-in-len3-up-2-clause-buffer t c = (kept-as-it-is _ _ c.args.made.now c.in-len3-up.len_at_least _ c.is_kept.ensures _ c.requires.whole c.if-is_kept.true c.write_words-in-len3-up-2.ensures).1

pub returns-in_ok-externalize_type-in-len3-up-clause-answer : goal.returns-in_ok-externalize_type-in-len3-up-clause-answer
returns-in_ok-externalize_type-in-len3-up-clause-answer t c = (made_inside _ _ c.args.made.now c.in-len3-up.len_at_least _ refl (goes-apart (get_or c.args.t.now 0 0) _ c.goes_inside.ensures c.if-goes_inside.true) _ c.goes_inside.ensures c.if-goes_inside.true _ c.externalize_type.ensures.buffer _ _ _ c.requires.whole c.requires.room c.in_ok-externalize_type-in-len3-up.ensures.answer c.external_layer.ensures c.write_words.ensures).0

pub returns-in_ok-externalize_type-in-len3-up-clause-buffer : goal.returns-in_ok-externalize_type-in-len3-up-clause-buffer
returns-in_ok-externalize_type-in-len3-up-clause-buffer t c = (made_inside _ _ c.args.made.now c.in-len3-up.len_at_least _ refl (goes-apart (get_or c.args.t.now 0 0) _ c.goes_inside.ensures c.if-goes_inside.true) _ c.goes_inside.ensures c.if-goes_inside.true _ c.externalize_type.ensures.buffer _ _ _ c.requires.whole c.requires.room c.in_ok-externalize_type-in-len3-up.ensures.answer c.external_layer.ensures c.write_words.ensures).1

pub returns-in_default-clause-answer : goal.returns-in_default-clause-answer
returns-in_default-clause-answer t c = (no-layer _ _ c.args.made.now c.in_default.len_below).0

pub returns-in_default-clause-buffer : goal.returns-in_default-clause-buffer
returns-in_default-clause-buffer t c = (no-layer _ _ c.args.made.now c.in_default.len_below).1

pub returns-in_default-2-clause-answer : goal.returns-in_default-2-clause-answer
returns-in_default-2-clause-answer t c = (refused-here _ _ c.args.made.now c.in-len3-up.len_at_least _ c.is_kept.ensures c.if-is_kept.false _ c.goes_inside.ensures c.if-goes_inside.false).0

pub returns-in_default-2-clause-buffer : goal.returns-in_default-2-clause-buffer
returns-in_default-2-clause-buffer t c = (refused-here _ _ c.args.made.now c.in-len3-up.len_at_least _ c.is_kept.ensures c.if-is_kept.false _ c.goes_inside.ensures c.if-goes_inside.false).1
