-- Texts and what they come to; tools/text_cases.py made the list from an independent reading of document 02.
use mathlib.Core.Path.{◌≡◌, refl}
use mathlib.Core.List.{List, [], ◌∷◌}
use Prim.Native.Nat.{ℕ}
use Prim.Native.String.{String}
use Rattle.theory.specs.Record.{cut}
use Rattle.text.specs.Tokens.{ascii, in_symbol, in_word, front_word, next, after}
use Rattle.text.specs.Spelling.{rule_number}
use Rattle.text.specs.Reading.{number_from, first_word, is_symbol, reserved, atom, bv_constant, indexed_operation, opened, head, arguments, read_term, sort_in, declaration, step_front, step_back}
use Rattle.text.specs.Writing.{front_bytes, term_record, step_record, kept, keep, put_term, write, write_all, put_step}
use Rattle.text.specs.Convert.{lines, declare, take_step, take_line, Outcome, written, refused, convert_from, convert}

-- a text, the bytes of the memory for its job, and the outcome
record Case : Type 0 where
  text : String
  room : ℕ
  outcome : Outcome

abbrev AllSo : List Case → Type 0
AllSo [] = Unit {0}
AllSo (c ∷ cs) = (convert c.room (ascii c.text) ≡ c.outcome) × AllSo cs

abbrev cases : List Case
cases =
    (record { text = ""; room = 10; outcome = written ([]) }) ∷
    (record { text = "\n"; room = 10; outcome = refused 1 }) ∷
    (record { text = " \t\r\n"; room = 10; outcome = refused 1 }) ∷
    (record { text = "(declare-const p Bool)"; room = 100; outcome = written (4 ∷ 0 ∷ 10 ∷ 0 ∷ 0 ∷ 0 ∷ []) }) ∷
    (record { text = "(declare-const p Bool)\n"; room = 100; outcome = written (4 ∷ 0 ∷ 10 ∷ 0 ∷ 0 ∷ 0 ∷ []) }) ∷
    (record { text = "(declare-const p Bool)\n\n"; room = 100; outcome = refused 2 }) ∷
    (record { text = "(declare-const p Bool)"; room = 6; outcome = written (4 ∷ 0 ∷ 10 ∷ 0 ∷ 0 ∷ 0 ∷ []) }) ∷
    (record { text = "(declare-const p Bool)"; room = 5; outcome = refused 1 }) ∷
    (record { text = "(declare-const p  Bool)\r\n"; room = 100; outcome = written (4 ∷ 0 ∷ 10 ∷ 0 ∷ 0 ∷ 0 ∷ []) }) ∷
    (record { text = "\t( declare-const p(_ BitVec 65535) ) "; room = 100; outcome = written (6 ∷ 0 ∷ 11 ∷ 0 ∷ 255 ∷ 255 ∷ 0 ∷ 0 ∷ []) }) ∷
    (record { text = "(declare-const p (_ BitVec 65536))"; room = 100; outcome = refused 1 }) ∷
    (record { text = "(declare-const p (_ BitVec 0))"; room = 100; outcome = written (6 ∷ 0 ∷ 11 ∷ 0 ∷ 0 ∷ 0 ∷ 0 ∷ 0 ∷ []) }) ∷
    (record { text = "(declare-const p (_ BitVec 04))"; room = 100; outcome = refused 1 }) ∷
    (record { text = "(declare-const bv5 Bool)"; room = 100; outcome = refused 1 }) ∷
    (record { text = "(declare-const bv05 Bool)"; room = 100; outcome = written (4 ∷ 0 ∷ 10 ∷ 0 ∷ 0 ∷ 0 ∷ []) }) ∷
    (record { text = "(declare-const bvx Bool)"; room = 100; outcome = written (4 ∷ 0 ∷ 10 ∷ 0 ∷ 0 ∷ 0 ∷ []) }) ∷
    (record { text = "(declare-const _ Bool)"; room = 100; outcome = refused 1 }) ∷
    (record { text = "(declare-const extract Bool)"; room = 100; outcome = refused 1 }) ∷
    (record { text = "(declare-const true Bool)"; room = 100; outcome = refused 1 }) ∷
    (record { text = "(declare-const let Bool)"; room = 100; outcome = written (4 ∷ 0 ∷ 10 ∷ 0 ∷ 0 ∷ 0 ∷ []) }) ∷
    (record { text = "(declare-const 1a Bool)"; room = 100; outcome = refused 1 }) ∷
    (record { text = "(declare-const a:b Bool)"; room = 100; outcome = refused 1 }) ∷
    (record { text = "(declare-const |a| Bool)"; room = 100; outcome = refused 1 }) ∷
    (record { text = "(declare-const p Bool)\n(declare-const v (_ BitVec 4))\n(declare-const p Bool)"; room = 100; outcome = refused 3 }) ∷
    (record { text = "(step a (cl true) :rule value)\n(declare-const p Bool)"; room = 100; outcome = refused 2 }) ∷
    (record { text = "(declare-const p Bool)\n(declare-const v (_ BitVec 4))\n(step a (cl true) :rule value)\n(step a (cl false) :rule var)"; room = 100; outcome = written (4 ∷ 0 ∷ 10 ∷ 0 ∷ 0 ∷ 0 ∷ 6 ∷ 0 ∷ 11 ∷ 0 ∷ 4 ∷ 0 ∷ 1 ∷ 0 ∷ 6 ∷ 0 ∷ 100 ∷ 0 ∷ 1 ∷ 0 ∷ 0 ∷ 0 ∷ 6 ∷ 0 ∷ 100 ∷ 0 ∷ 2 ∷ 0 ∷ 1 ∷ 0 ∷ []) }) ∷
    (record { text = "(declare-const p Bool)\n(declare-const v (_ BitVec 4))\n(step a (cl (= v #b0101)) :rule var)"; room = 100; outcome = written (4 ∷ 0 ∷ 10 ∷ 0 ∷ 0 ∷ 0 ∷ 6 ∷ 0 ∷ 11 ∷ 0 ∷ 4 ∷ 0 ∷ 1 ∷ 0 ∷ 12 ∷ 0 ∷ 12 ∷ 0 ∷ 4 ∷ 0 ∷ 5 ∷ 0 ∷ 0 ∷ 0 ∷ 0 ∷ 0 ∷ 0 ∷ 0 ∷ 6 ∷ 0 ∷ 24 ∷ 0 ∷ 3 ∷ 0 ∷ 4 ∷ 0 ∷ 6 ∷ 0 ∷ 100 ∷ 0 ∷ 2 ∷ 0 ∷ 5 ∷ 0 ∷ []) }) ∷
    (record { text = "(declare-const p Bool)\n(declare-const v (_ BitVec 4))\n(step a (cl (= #x5 #b0101)) :rule value)\n(step a (cl (= (_ bv5 4) v)) :rule value)\n"; room = 100; outcome = written (4 ∷ 0 ∷ 10 ∷ 0 ∷ 0 ∷ 0 ∷ 6 ∷ 0 ∷ 11 ∷ 0 ∷ 4 ∷ 0 ∷ 1 ∷ 0 ∷ 12 ∷ 0 ∷ 12 ∷ 0 ∷ 4 ∷ 0 ∷ 5 ∷ 0 ∷ 0 ∷ 0 ∷ 0 ∷ 0 ∷ 0 ∷ 0 ∷ 6 ∷ 0 ∷ 24 ∷ 0 ∷ 4 ∷ 0 ∷ 4 ∷ 0 ∷ 6 ∷ 0 ∷ 100 ∷ 0 ∷ 1 ∷ 0 ∷ 5 ∷ 0 ∷ 6 ∷ 0 ∷ 24 ∷ 0 ∷ 4 ∷ 0 ∷ 3 ∷ 0 ∷ 6 ∷ 0 ∷ 100 ∷ 0 ∷ 1 ∷ 0 ∷ 6 ∷ 0 ∷ []) }) ∷
    (record { text = "(declare-const p Bool)\n(declare-const v (_ BitVec 4))\n(step a (cl (= ((_ @bit_of 2) v) (and p (not p)))) :rule equality)"; room = 100; outcome = written (4 ∷ 0 ∷ 10 ∷ 0 ∷ 0 ∷ 0 ∷ 6 ∷ 0 ∷ 11 ∷ 0 ∷ 4 ∷ 0 ∷ 1 ∷ 0 ∷ 6 ∷ 0 ∷ 30 ∷ 0 ∷ 2 ∷ 0 ∷ 3 ∷ 0 ∷ 4 ∷ 0 ∷ 20 ∷ 0 ∷ 2 ∷ 0 ∷ 6 ∷ 0 ∷ 21 ∷ 0 ∷ 2 ∷ 0 ∷ 5 ∷ 0 ∷ 6 ∷ 0 ∷ 24 ∷ 0 ∷ 4 ∷ 0 ∷ 6 ∷ 0 ∷ 6 ∷ 0 ∷ 100 ∷ 0 ∷ 13 ∷ 0 ∷ 7 ∷ 0 ∷ []) }) ∷
    (record { text = "(declare-const p Bool)\n(declare-const v (_ BitVec 4))\n(step a (cl (= ((_ extract 2 1) v) ((_ sign_extend 3) v))) :rule extract)"; room = 100; outcome = written (4 ∷ 0 ∷ 10 ∷ 0 ∷ 0 ∷ 0 ∷ 6 ∷ 0 ∷ 11 ∷ 0 ∷ 4 ∷ 0 ∷ 1 ∷ 0 ∷ 8 ∷ 0 ∷ 57 ∷ 0 ∷ 2 ∷ 0 ∷ 1 ∷ 0 ∷ 3 ∷ 0 ∷ 6 ∷ 0 ∷ 58 ∷ 0 ∷ 3 ∷ 0 ∷ 3 ∷ 0 ∷ 6 ∷ 0 ∷ 24 ∷ 0 ∷ 4 ∷ 0 ∷ 5 ∷ 0 ∷ 6 ∷ 0 ∷ 100 ∷ 0 ∷ 15 ∷ 0 ∷ 6 ∷ 0 ∷ []) }) ∷
    (record { text = "(declare-const p Bool)\n(declare-const v (_ BitVec 4))\n(step a (cl (bvult v v)) :rule ult)"; room = 35; outcome = written (4 ∷ 0 ∷ 10 ∷ 0 ∷ 0 ∷ 0 ∷ 6 ∷ 0 ∷ 11 ∷ 0 ∷ 4 ∷ 0 ∷ 1 ∷ 0 ∷ 6 ∷ 0 ∷ 49 ∷ 0 ∷ 3 ∷ 0 ∷ 3 ∷ 0 ∷ 6 ∷ 0 ∷ 100 ∷ 0 ∷ 8 ∷ 0 ∷ 4 ∷ 0 ∷ []) }) ∷
    (record { text = "(declare-const p Bool)\n(declare-const v (_ BitVec 4))\n(step a (cl (bvult v v)) :rule ult)"; room = 28; outcome = refused 3 }) ∷
    (record { text = "(declare-const p Bool)\n(declare-const v (_ BitVec 4))\n(step a (cl (bvult v v)) :rule ult)"; room = 29; outcome = refused 3 }) ∷
    (record { text = "(declare-const p Bool)\n(declare-const v (_ BitVec 4))\n(step a (cl (bvult v v)) :rule ult)"; room = 14; outcome = refused 3 }) ∷
    (record { text = "(declare-const p Bool)\n(declare-const v (_ BitVec 4))\n(step a (cl (bvult v v)) :rule bitblast_ult)"; room = 100; outcome = refused 3 }) ∷
    (record { text = "(declare-const p Bool)\n(declare-const v (_ BitVec 4))\n(step a (cl (and)) :rule and)"; room = 100; outcome = refused 3 }) ∷
    (record { text = "(declare-const p Bool)\n(declare-const v (_ BitVec 4))\n(step a (cl (and p)) :rule and)"; room = 100; outcome = written (4 ∷ 0 ∷ 10 ∷ 0 ∷ 0 ∷ 0 ∷ 6 ∷ 0 ∷ 11 ∷ 0 ∷ 4 ∷ 0 ∷ 1 ∷ 0 ∷ 4 ∷ 0 ∷ 21 ∷ 0 ∷ 2 ∷ 0 ∷ 6 ∷ 0 ∷ 100 ∷ 0 ∷ 3 ∷ 0 ∷ 4 ∷ 0 ∷ []) }) ∷
    (record { text = "(declare-const p Bool)\n(declare-const v (_ BitVec 4))\n(step a (cl (= p p p)) :rule and)"; room = 100; outcome = refused 3 }) ∷
    (record { text = "(declare-const p Bool)\n(declare-const v (_ BitVec 4))\n(step a (cl (ite p p)) :rule and)"; room = 100; outcome = refused 3 }) ∷
    (record { text = "(declare-const p Bool)\n(declare-const v (_ BitVec 4))\n(step a (cl q) :rule value)"; room = 100; outcome = refused 3 }) ∷
    (record { text = "(declare-const p Bool)\n(declare-const v (_ BitVec 4))\n(step a (cl (_ bv2 1)) :rule value)"; room = 100; outcome = written (4 ∷ 0 ∷ 10 ∷ 0 ∷ 0 ∷ 0 ∷ 6 ∷ 0 ∷ 11 ∷ 0 ∷ 4 ∷ 0 ∷ 1 ∷ 0 ∷ 12 ∷ 0 ∷ 12 ∷ 0 ∷ 1 ∷ 0 ∷ 2 ∷ 0 ∷ 0 ∷ 0 ∷ 0 ∷ 0 ∷ 0 ∷ 0 ∷ 6 ∷ 0 ∷ 100 ∷ 0 ∷ 1 ∷ 0 ∷ 4 ∷ 0 ∷ []) }) ∷
    (record { text = "(declare-const p Bool)\n(declare-const v (_ BitVec 4))\n(step a (cl (_ bv02 1)) :rule value)"; room = 100; outcome = refused 3 }) ∷
    (record { text = "(declare-const p Bool)\n(declare-const v (_ BitVec 4))\n(step a (cl (_ bv18446744073709551615 64)) :rule value)"; room = 100; outcome = written (4 ∷ 0 ∷ 10 ∷ 0 ∷ 0 ∷ 0 ∷ 6 ∷ 0 ∷ 11 ∷ 0 ∷ 4 ∷ 0 ∷ 1 ∷ 0 ∷ 12 ∷ 0 ∷ 12 ∷ 0 ∷ 64 ∷ 0 ∷ 255 ∷ 255 ∷ 255 ∷ 255 ∷ 255 ∷ 255 ∷ 255 ∷ 255 ∷ 6 ∷ 0 ∷ 100 ∷ 0 ∷ 1 ∷ 0 ∷ 4 ∷ 0 ∷ []) }) ∷
    (record { text = "(declare-const p Bool)\n(declare-const v (_ BitVec 4))\n(step a (cl (_ bv18446744073709551616 64)) :rule value)"; room = 100; outcome = refused 3 }) ∷
    (record { text = "(declare-const p Bool)\n(declare-const v (_ BitVec 4))\n(step a (cl #xABCDEFabcdef) :rule value)"; room = 100; outcome = written (4 ∷ 0 ∷ 10 ∷ 0 ∷ 0 ∷ 0 ∷ 6 ∷ 0 ∷ 11 ∷ 0 ∷ 4 ∷ 0 ∷ 1 ∷ 0 ∷ 12 ∷ 0 ∷ 12 ∷ 0 ∷ 48 ∷ 0 ∷ 239 ∷ 205 ∷ 171 ∷ 239 ∷ 205 ∷ 171 ∷ 0 ∷ 0 ∷ 6 ∷ 0 ∷ 100 ∷ 0 ∷ 1 ∷ 0 ∷ 4 ∷ 0 ∷ []) }) ∷
    (record { text = "(declare-const p Bool)\n(declare-const v (_ BitVec 4))\n(step a (cl #b) :rule value)"; room = 100; outcome = refused 3 }) ∷
    (record { text = "(declare-const p Bool)\n(declare-const v (_ BitVec 4))\n(step a (cl #b012) :rule value)"; room = 100; outcome = refused 3 }) ∷
    (record { text = "(declare-const p Bool)\n(declare-const v (_ BitVec 4))\n(step a (cl #X1) :rule value)"; room = 100; outcome = refused 3 }) ∷
    (record { text = "(declare-const p Bool)\n(declare-const v (_ BitVec 4))\n(step a (cl ((_ @bit_of 65535) v)) :rule value)"; room = 100; outcome = written (4 ∷ 0 ∷ 10 ∷ 0 ∷ 0 ∷ 0 ∷ 6 ∷ 0 ∷ 11 ∷ 0 ∷ 4 ∷ 0 ∷ 1 ∷ 0 ∷ 6 ∷ 0 ∷ 30 ∷ 0 ∷ 255 ∷ 255 ∷ 3 ∷ 0 ∷ 6 ∷ 0 ∷ 100 ∷ 0 ∷ 1 ∷ 0 ∷ 4 ∷ 0 ∷ []) }) ∷
    (record { text = "(declare-const p Bool)\n(declare-const v (_ BitVec 4))\n(step a (cl ((_ @bit_of 65536) v)) :rule value)"; room = 100; outcome = refused 3 }) ∷
    (record { text = "(declare-const p Bool)\n(declare-const v (_ BitVec 4))\n(step a (cl (@bit_of 1 v)) :rule value)"; room = 100; outcome = refused 3 }) ∷
    (record { text = "(declare-const p Bool)\n(declare-const v (_ BitVec 4))\n(step a (cl ((_ bvnot 1) v)) :rule value)"; room = 100; outcome = refused 3 }) ∷
    (record { text = "(declare-const p Bool)\n(declare-const v (_ BitVec 4))\n(step a (cl (extract v)) :rule value)"; room = 100; outcome = refused 3 }) ∷
    (record { text = "(declare-const p Bool)\n(declare-const v (_ BitVec 4))\n(step a (cl p p) :rule value)"; room = 100; outcome = refused 3 }) ∷
    (record { text = "(declare-const p Bool)\n(declare-const v (_ BitVec 4))\n(step a (cl) :rule value)"; room = 100; outcome = refused 3 }) ∷
    (record { text = "(declare-const p Bool)\n(declare-const v (_ BitVec 4))\n(step 1 (cl p) :rule value)"; room = 100; outcome = refused 3 }) ∷
    (record { text = "(declare-const p Bool)\n(declare-const v (_ BitVec 4))\n(step a (cl p) :rule value) x"; room = 100; outcome = refused 3 }) ∷
    (record { text = "(declare-const p Bool)\n(declare-const v (_ BitVec 4))\n(step a (cl p) :rule value :premises)"; room = 100; outcome = refused 3 }) ∷
    (record { text = "(declare-const p Bool)\n(declare-const v (_ BitVec 4))\n(assume a p)"; room = 100; outcome = refused 3 }) ∷
    (record { text = "; c"; room = 100; outcome = refused 1 }) ∷
    (record { text = "(declare-const p Bool)\n(declare-const v (_ BitVec 4))\n(step a (cl (not (not (not p)))) :rule not)"; room = 100; outcome = written (4 ∷ 0 ∷ 10 ∷ 0 ∷ 0 ∷ 0 ∷ 6 ∷ 0 ∷ 11 ∷ 0 ∷ 4 ∷ 0 ∷ 1 ∷ 0 ∷ 4 ∷ 0 ∷ 20 ∷ 0 ∷ 2 ∷ 0 ∷ 4 ∷ 0 ∷ 20 ∷ 0 ∷ 4 ∷ 0 ∷ 4 ∷ 0 ∷ 20 ∷ 0 ∷ 5 ∷ 0 ∷ 6 ∷ 0 ∷ 100 ∷ 0 ∷ 7 ∷ 0 ∷ 6 ∷ 0 ∷ []) }) ∷
    (record { text = "(declare-const p Bool)\n(declare-const v (_ BitVec 4))\n(step a (cl (@bbterm p true false p)) :rule var)"; room = 100; outcome = written (4 ∷ 0 ∷ 10 ∷ 0 ∷ 0 ∷ 0 ∷ 6 ∷ 0 ∷ 11 ∷ 0 ∷ 4 ∷ 0 ∷ 1 ∷ 0 ∷ 10 ∷ 0 ∷ 31 ∷ 0 ∷ 2 ∷ 0 ∷ 0 ∷ 0 ∷ 1 ∷ 0 ∷ 2 ∷ 0 ∷ 6 ∷ 0 ∷ 100 ∷ 0 ∷ 2 ∷ 0 ∷ 4 ∷ 0 ∷ []) }) ∷
    (record { text = "(step a (cl (not (not (not true)))) :rule not)"; room = 100; outcome = written (4 ∷ 0 ∷ 20 ∷ 0 ∷ 0 ∷ 0 ∷ 4 ∷ 0 ∷ 20 ∷ 0 ∷ 2 ∷ 0 ∷ 4 ∷ 0 ∷ 20 ∷ 0 ∷ 3 ∷ 0 ∷ 6 ∷ 0 ∷ 100 ∷ 0 ∷ 7 ∷ 0 ∷ 4 ∷ 0 ∷ []) }) ∷
    (record { text = "(declare-const p Bool)\n(declare-const v (_ BitVec 4))\n(step a (cl (bvadd v v v v v)) :rule add)"; room = 100; outcome = written (4 ∷ 0 ∷ 10 ∷ 0 ∷ 0 ∷ 0 ∷ 6 ∷ 0 ∷ 11 ∷ 0 ∷ 4 ∷ 0 ∷ 1 ∷ 0 ∷ 12 ∷ 0 ∷ 45 ∷ 0 ∷ 3 ∷ 0 ∷ 3 ∷ 0 ∷ 3 ∷ 0 ∷ 3 ∷ 0 ∷ 3 ∷ 0 ∷ 6 ∷ 0 ∷ 100 ∷ 0 ∷ 10 ∷ 0 ∷ 4 ∷ 0 ∷ []) }) ∷
    (record { text = "(declare-const p Bool)\n(declare-const v (_ BitVec 4))\n(step a (cl (bvfoo v)) :rule add)"; room = 100; outcome = refused 3 }) ∷
    (record { text = "(declare-const p Bool)\n(declare-const v (_ BitVec 4))\n(step a (cl (concat v v)) :rule bitwise_slicing)"; room = 100; outcome = written (4 ∷ 0 ∷ 10 ∷ 0 ∷ 0 ∷ 0 ∷ 6 ∷ 0 ∷ 11 ∷ 0 ∷ 4 ∷ 0 ∷ 1 ∷ 0 ∷ 6 ∷ 0 ∷ 56 ∷ 0 ∷ 3 ∷ 0 ∷ 3 ∷ 0 ∷ 6 ∷ 0 ∷ 100 ∷ 0 ∷ 23 ∷ 0 ∷ 4 ∷ 0 ∷ []) }) ∷
    []

pub computed : AllSo cases
unfolding cut in_symbol in_word front_word next after rule_number number_from first_word is_symbol reserved atom bv_constant indexed_operation opened head arguments read_term sort_in declaration step_front step_back front_bytes term_record step_record kept keep put_term write write_all put_step lines declare take_step take_line convert_from
computed = (refl, (refl, (refl, (refl, (refl, (refl, (refl, (refl, (refl, (refl, (refl, (refl, (refl, (refl, (refl, (refl, (refl, (refl, (refl, (refl, (refl, (refl, (refl, (refl, (refl, (refl, (refl, (refl, (refl, (refl, (refl, (refl, (refl, (refl, (refl, (refl, (refl, (refl, (refl, (refl, (refl, (refl, (refl, (refl, (refl, (refl, (refl, (refl, (refl, (refl, (refl, (refl, (refl, (refl, (refl, (refl, (refl, (refl, (refl, (refl, (refl, (refl, (refl, (refl, (refl, (refl, tt))))))))))))))))))))))))))))))))))))))))))))))))))))))))))))))))))
