-- Each public contract allows one result: any two that it allows of the same arguments coincide.
-- Assumes nothing.
use mathlib.Core.Path.{sym, ◌∙◌}
use Rattle.type_layers.proofs.Single.{Single}
use Rattle.std.specs.Prelude.{Ok}
use Rattle.type_layers.proofs.Apart.{result-apart, found-apart}
use Rattle.type_size_and_depth.proofs.known_sizes.known_size.Kinds as known-size-kinds
use Rattle.type_size_and_depth.proofs.known_sizes.known_size.Reads as known-size
use Rattle.type_size_and_depth.proofs.known_sizes.known_size_in_bytes_as_word_member.Kinds as known-size-in-bytes-as-word-member-kinds
use Rattle.type_size_and_depth.proofs.known_sizes.known_size_in_bytes_as_word_member.Reads as known-size-in-bytes-as-word-member
use Rattle.type_size_and_depth.proofs.pointer_depths.depth.Kinds as depth-kinds
use Rattle.type_size_and_depth.proofs.pointer_depths.depth.Reads as depth
use Rattle.type_size_and_depth.proofs.pointer_depths.pointer_depth.Kinds as pointer-depth-kinds
use Rattle.type_size_and_depth.proofs.pointer_depths.pointer_depth.Reads as pointer-depth

pub known-size-single : Single 1 known-size-kinds.ps known-size-kinds.r known-size.Post
known-size-single κs a x y s t p q = let e = found-apart (Ok x) (Ok y) (p ∙ sym q) in cc

pub known-size-in-bytes-as-word-member-single : Single 1 known-size-in-bytes-as-word-member-kinds.ps known-size-in-bytes-as-word-member-kinds.r known-size-in-bytes-as-word-member.Post
known-size-in-bytes-as-word-member-single κs a x y s t p q = found-apart x y (p ∙ sym q)

pub depth-single : Single 1 depth-kinds.ps depth-kinds.r depth.Post
depth-single κs a x y s t p q = p ∙ sym q

pub pointer-depth-single : Single 1 pointer-depth-kinds.ps pointer-depth-kinds.r pointer-depth.Post
pointer-depth-single κs a x y s t p q = result-apart x y (p ∙ sym q)
