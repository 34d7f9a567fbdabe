-- The rounds' steps and what the settling adds are the plan's.
-- Assumes nothing.
use mathlib.Core.Path.{◌≡◌, refl, ap}
use mathlib.Core.Bool.{Bool, true, false, cond}
use mathlib.Core.List.{List, [], ◌∷◌, ◌++◌}
use Prim.Native.Nat.{ℕ, ◌+◌, ◌*◌, ◌%◌, ◌≤◌}
use native.Mathlib.Omega.{arith}
use lib.Dec.{eqb}
use lib.ListN.{length, replicate, length-drop}
use Rattle.std.specs.Prelude.{Result, Ok, Err}
use Rattle.type_numbers.specs.Kind as kind
use Rattle.type_numbers.specs.Refusal.{number_of}
use Rattle.type_numbers.specs.declared.refusal.Refusal.{Refusal}
use Rattle.type_layers.specs.Layers.{Layer, layers}
use Rattle.type_layers.specs.AsCoded.{Whole}
use Rattle.type_layers.specs.Answer.{Answer, refused, IsUnplaced}
use Rattle.type_layers.specs.declared.answers.Refused.{Refused}
use Rattle.type_layers.proofs.Spelling.{spelled-length, spelled-layers, layers-drop}
use Rattle.type_parts.specs.Parts.{references, fully_dereferenced}
use Rattle.type_size_and_depth.specs.Depth.{pointer_depth}
use Rattle.plan_steps.specs.Steps.{Step, step, steps, step_words}
use Rattle.plan_steps.proofs.Words.{words-length, words_back}
use Rattle.plan_settling.specs.declared.settling.Settling.{Settling}
use Rattle.plan_settling.specs.declared.settling.Settling.TheVariants as settling
use Rattle.plan_settling.specs.Settling.{settle_by}
use Rattle.plan_settling.specs.AsCoded.{of_settling, Settles}
use Rattle.plan_ending.specs.declared.ending.Ending.{Ending}
use Rattle.plan_ending.specs.AsCoded.{ending_of, body_of}
use Rattle.plan_report.specs.Plan.{Plan}
use Rattle.plan_report.specs.Report.{delivered, HandsResult}
use Rattle.plan_report.specs.declared.report.Report.{Report}
use Rattle.plan_report.proofs.Delivering.{refuses}
use Rattle.plan_report.specs.AsCoded.{plan_of_words}
use Rattle.plan_rounds.specs.Settled.{with_settling}
use Rattle.symbol_columns.specs.declared.table.Table.{Table}
use Rattle.plan_rounds.specs.Rounds.{ended, stopped, in_rounds}
use Rattle.plan_rounds.specs.AsCoded.{stored_in, finished, plan_in_rounds}
use Rattle.plan_rounds.specs.declared.question.Question.{Question}

-- what is handed out for an outcome, by what that is
module _ (d : Answer Plan) (r : Result Report Refused) (b b' t t' : List ℕ) where
  pub hands-same : (e : Answer Plan) → d ≡ e → HandsResult e r b b' t t' → HandsResult d r b b' t t'
  hands-same e q h = rw q h

pub hands-refused : (d : Answer Plan) (n : Refusal) (r : Result Report Refused) (x : Refused) (b t : List ℕ) → r ≡ Err x → IsUnplaced n x → d ≡ refused (number_of n) 0 → HandsResult d r b b t t
hands-refused d n r x b t e i q = rw e (refuses d n x b t q i)

-- a type has no more Pointers than layers
pub depth-few : (a : List Layer) → pointer_depth a ≤ length a
unfolding pointer_depth
depth-few [] = omega arith
depth-few (x ∷ a) = by_kind (eqb x.kind kind.pointer) (eqb x.kind kind.slice_pointer) (depth-few a)
  where
    by_kind : (f g : Bool) → pointer_depth a ≤ length a → cond f (pointer_depth a + 1) (cond g 1 0) ≤ length (x ∷ a)
    by_kind true g h = omega arith
    by_kind false true h = omega arith
    by_kind false false h = omega arith

pub whole-few : (ws : List ℕ) → Whole ws → length (layers ws) ≤ 16
whole-few ws w = omega (arith, spelled-length (layers ws), ap length (spelled-layers ws w.whole), w.few)

pub whole-depth : (ws : List ℕ) → Whole ws → pointer_depth (layers ws) ≤ 16
whole-depth ws w = omega (arith, depth-few (layers ws), whole-few ws w)

-- what a settling that is given adds
ok_is : (e f : Ending) → Path (Result Ending Refusal) (Ok e) (Ok f) → e ≡ f
ok_is e f h = cc

pub extra-few : (s : Result Settling Refusal) (p n : ℕ) (e : Ending) → Ok e ≡ ending_of s p n → p ≤ 16 → e.extra ≤ 16
extra-few (Ok settling.Identical) p n e h q = rw (ok_is e _ h) (omega arith)
extra-few (Ok settling.Viewed) p n e h q = rw (ok_is e _ h) (omega arith)
extra-few (Ok settling.Coerced) p n e h q = rw (ok_is e _ h) (omega arith)
extra-few (Ok settling.SlicePointer) p n e h q = rw (ok_is e _ h) (omega arith)
extra-few (Ok settling.PointedTo) p n e h q = rw (ok_is e _ h) (omega arith)
extra-few (Ok settling.AddressCoerced) p n e h q = rw (ok_is e _ h) (omega arith)
extra-few (Ok settling.Addressed) p n e h q = rw (ok_is e _ h) (omega arith)
extra-few (Ok settling.Dereferenced) p n e h q = rw (ok_is e _ h) (omega arith)
extra-few (Err r) p n e h q = cc

pub lead-few : (s : Result Settling Refusal) (p n : ℕ) (e : Ending) → Ok e ≡ ending_of s p n → n ≤ 255 → e.lead ≤ 255
lead-few (Ok settling.Identical) p n e h q = rw (ok_is e _ h) (omega arith)
lead-few (Ok settling.Viewed) p n e h q = rw (ok_is e _ h) (omega arith)
lead-few (Ok settling.Coerced) p n e h q = rw (ok_is e _ h) (omega arith)
lead-few (Ok settling.SlicePointer) p n e h q = rw (ok_is e _ h) (omega arith)
lead-few (Ok settling.PointedTo) p n e h q = rw (ok_is e _ h) (omega arith)
lead-few (Ok settling.AddressCoerced) p n e h q = rw (ok_is e _ h) (omega arith)
lead-few (Ok settling.Addressed) p n e h q = rw (ok_is e _ h) (omega arith)
lead-few (Ok settling.Dereferenced) p n e h q = rw (ok_is e _ h) q
lead-few (Err r) p n e h q = cc

-- only a settling that is refused has no ending: the same refusal
refusal_is : (s : Result Settling Refusal) (p n : ℕ) (r : Refusal) → Err r ≡ ending_of s p n → s ≡ Err r
refusal_is s p n r h = grind arith

dereferenced-whole : (ws : List ℕ) → Whole ws → Whole (fully_dereferenced ws)
unfolding fully_dereferenced
dereferenced-whole ws w =
    let n = length-drop (references (layers ws) * 3) ws in
    record { whole = omega (arith, n, w.whole); few = omega (arith, n, w.few) }

pub body-whole : (s : Result Settling Refusal) (c t b : List ℕ) → b ≡ body_of s c t → Whole c → Whole t → Whole b
body-whole (Ok settling.Identical) c t r e p q = rw e p
body-whole (Ok settling.Viewed) c t r e p q = rw e q
body-whole (Ok settling.Coerced) c t r e p q = rw e p
body-whole (Ok settling.SlicePointer) c t r e p q = rw e p
body-whole (Ok settling.PointedTo) c t r e p q = rw e p
body-whole (Ok settling.AddressCoerced) c t r e p q = rw e p
body-whole (Ok settling.Addressed) c t r e p q = rw e p
body-whole (Ok settling.Dereferenced) c t r e p q = rw e (dereferenced-whole c p)
body-whole (Err r) c t b e p q = rw e p

pub fours : (w : List ℕ) (ss : List Step) → w ≡ step_words ss → length w % 4 ≡ 0
fours w ss e = rw (e, words-length) (omega arith)

module _ (cur target : List ℕ) (ss : List Step) (k n : ℕ) where
  abbrev c : List Layer
  c = layers cur

  abbrev t : List Layer
  t = layers target

  gives_so : (s : Result Settling Refusal) (e : Ending) (v : List ℕ) → Ok e ≡ ending_of s (pointer_depth c) n → steps v ≡ ss ++ replicate e.extra (step e.kind 0 0 0) →
      with_settling ss k (of_settling s c t n) ≡ plan_of_words v k e (body_of s cur target)
  unfolding plan_of_words fully_dereferenced settle_by
  gives_so (Ok settling.Identical) e v h w = rw (w, ok_is e _ h) refl
  gives_so (Ok settling.Viewed) e v h w = rw (w, ok_is e _ h) refl
  gives_so (Ok settling.Coerced) e v h w = rw (w, ok_is e _ h) refl
  gives_so (Ok settling.SlicePointer) e v h w = rw (w, ok_is e _ h) refl
  gives_so (Ok settling.PointedTo) e v h w = rw (w, ok_is e _ h) refl
  gives_so (Ok settling.AddressCoerced) e v h w = rw (w, ok_is e _ h) refl
  gives_so (Ok settling.Addressed) e v h w = rw (w, ok_is e _ h) refl
  gives_so (Ok settling.Dereferenced) e v h w = rw (w, ok_is e _ h, layers-drop (references c) cur) refl
  gives_so (Err r) e v h w = cc

  module _ (room wide m : ℕ) (em : m ≡ n) (s : Result Settling Refusal) (by-line : Settles s c t m) (p : ℕ) (deep : p ≡ pointer_depth c) where
    pub not-settled : (r : Refusal) → Err r ≡ ending_of s p m → finished ss k c t n room wide ≡ refused (number_of r) 0
    unfolding finished delivered
    not-settled r h = rw (← (rw em at by-line).1, refusal_is s p m r h) refl

    pub settled : (e : Ending) (x : Step) (us : List Step) (v b : List ℕ) → Ok e ≡ ending_of s p m →
        x ≡ step e.kind 0 0 0 → us ≡ ss ++ replicate e.extra x → v ≡ step_words us → b ≡ body_of s cur target →
        finished ss k c t n room wide ≡ delivered room wide (plan_of_words v k e b)
    unfolding finished
    settled e x us v b numbers ex eu ev eb =
        let is : Ok e ≡ ending_of s (pointer_depth c) n = rw (deep, em) at numbers in
        let w : steps v ≡ ss ++ replicate e.extra (step e.kind 0 0 0) = rw (ev, words_back us, eu, ex) refl in
        ap (delivered room wide) (rw (← (rw em at by-line).1, eb) (gives_so s e v is w))

-- the plan of the rounds, by how they ended
module _ (table : Table) (q : Question) (room wide : ℕ) where
  pub rounds-refused : (e : ℕ) → in_rounds (stored_in table) q.rounds (layers q.known.now) (steps q.asked.now) ≡ stopped e → plan_in_rounds table q room wide ≡ refused e 0
  unfolding plan_in_rounds delivered
  rounds-refused e w = rw w refl

  pub rounds-ended : (ss : List Step) (k : ℕ) (c : List Layer) → in_rounds (stored_in table) q.rounds (layers q.known.now) (steps q.asked.now) ≡ ended ss k c →
      plan_in_rounds table q room wide ≡ finished ss k c (layers q.target.now) q.level room wide
  unfolding plan_in_rounds finished
  rounds-ended ss k c w = rw w refl
