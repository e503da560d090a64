-- Algorithm 1, SC-ABD, as document 000 prints it: the code for p_i, with the paper's line numbers. This file knows nothing of the bench, of its
-- tables, of its byte sets or of its limits. Where the paper leaves something open, docs/DECISIONS.md says what is taken.
use Rattle.std.specs.Prelude.{ℕ, zero, suc, ◌+◌, ◌/◌, max, Bool, true, false, cond, ◌&&◌, ◌||◌, List, [], ◌∷◌, ◌++◌, eqb, ltb, ℤ, pos, negsuc, length}

-- ---- timestamps and timestamp-value pairs

pub record Timestamp : Type 0 where
  pub time : ℕ
  pub process : ℕ

pub record Tsv : Type 0 where
  pub ts : Timestamp
  pub value : ℤ

-- the initial timestamp-value pair, ((0, 0), 0)
abbrev pub initial : Tsv
initial = record { ts = record { time = 0; process = 0 }; value = pos 0 }

abbrev pub less : Timestamp → Timestamp → Bool
less a b = ltb a.time b.time || (eqb a.time b.time && ltb a.process b.process)

-- max of two pairs goes by the timestamps; of equal ones the first
abbrev pub max_tsv : Tsv → Tsv → Tsv
max_tsv a b = cond (less a.ts b.ts) b a

-- ---- messages

pub data Content : Type 0 where
  query : (lt rid r : ℕ) → Content
  response : (lt rid : ℕ) → (tsv : Tsv) → Content
  update : (lt rid r : ℕ) → (tsv : Tsv) → Content
  ack : (lt rid : ℕ) → Content

pub record Packet : Type 0 where
  pub from : ℕ
  pub to : ℕ
  pub content : Content

-- bcast m: for j in Π = {1, .., n} do send m to p_j
abbrev pub to_all : ℕ → ℕ → ℕ → Content → List Packet
to_all i j zero m = []
to_all i j (suc left) m = record { from = i; to = j; content = m } ∷ to_all i (suc j) left m

abbrev pub bcast : ℕ → ℕ → Content → List Packet
bcast n i m = to_all i 1 n m

-- ---- the set `responses`: (tsv, j) in lines 9 to 13, j alone in lines 25 to 27; in the order in which they were joined

pub data Reply : Type 0 where
  pair : Tsv → ℕ → Reply
  only : ℕ → Reply

abbrev pub same_value : ℤ → ℤ → Bool
same_value (pos a) (pos b) = eqb a b
same_value (pos a) (negsuc b) = false
same_value (negsuc a) (pos b) = false
same_value (negsuc a) (negsuc b) = eqb a b

abbrev pub same_tsv : Tsv → Tsv → Bool
same_tsv a b = eqb a.ts.time b.ts.time && eqb a.ts.process b.ts.process && same_value a.value b.value

abbrev pub same_reply : Reply → Reply → Bool
same_reply (pair a i) (pair b j) = same_tsv a b && eqb i j
same_reply (pair a i) (only j) = false
same_reply (only i) (pair b j) = false
same_reply (only i) (only j) = eqb i j

abbrev pub is_in : Reply → List Reply → Bool
is_in a [] = false
is_in a (b ∷ rest) = same_reply a b || is_in a rest

-- responses ∪ {a}
abbrev pub join : List Reply → Reply → List Reply
join responses a = cond (is_in a responses) responses (responses ++ (a ∷ []))

-- max(responses), of equal timestamps the one that was joined first
abbrev pub max_from : Tsv → List Reply → Tsv
max_from best [] = best
max_from best (pair tsv j ∷ rest) = max_from (max_tsv best tsv) rest
max_from best (only j ∷ rest) = max_from best rest

abbrev pub max_of : List Reply → Tsv
max_of responses = max_from initial responses

-- ---- the variables of p_i, and what a handler does

pub record Process : Type 0 where
  pub lt : ℕ
  pub reading : Bool
  pub rreg : ℕ
  pub rid : ℕ
  pub tsv : Tsv
  pub rval : ℤ
  pub tvps : ℕ → Tsv
  pub responses : List Reply

abbrev pub at_first : Process
at_first =
    record { lt = 0; reading = false; rreg = 0; rid = 0; tsv = initial; rval = pos 0; tvps = λ r. initial; responses = [] }

pub data Return : Type 0 where
  none : Return
  OK : Return
  value : ℤ → Return

pub record Done : Type 0 where
  pub process : Process
  pub sends : List Packet
  pub return : Return

-- tvps[r] ← tsv
abbrev pub assigned : (ℕ → Tsv) → ℕ → Tsv → ℕ → Tsv
assigned tvps r tsv x = cond (eqb x r) tsv (tvps x)

-- ⌊|Π| / 2⌋ + 1
abbrev pub majority : ℕ → ℕ
majority n = n / 2 + 1

-- When READ(r) is invoked
abbrev pub on_read : ℕ → ℕ → Process → ℕ → Done
on_read n i p r =
    let lt = p.lt + 1 in  -- 1
    let rid = p.rid + 1 in  -- 4
    record {
      process =
          record {
            lt = lt;
            reading = true;  -- 2
            rreg = r;  -- 3
            rid = rid;
            tsv = p.tsv;
            rval = p.rval;
            tvps = p.tvps;
            responses = p.responses;
          };
      sends = bcast n i (query lt rid r);  -- 5
      return = none;
    }

-- When WRITE(r, v) is invoked
abbrev pub on_write : ℕ → ℕ → Process → ℕ → ℤ → Done
on_write n i p r v =
    let lt = p.lt + 1 in  -- 16
    let tsv : Tsv = record { ts = record { time = lt; process = i }; value = v } in  -- 18
    let rid = p.rid + 1 in  -- 19
    record {
      process =
          record {
            lt = lt;
            reading = false;  -- 17
            rreg = p.rreg;
            rid = rid;
            tsv = tsv;
            rval = p.rval;
            tvps = p.tvps;
            responses = p.responses;
          };
      sends = bcast n i (update lt rid r tsv);  -- 20
      return = none;
    }

-- When ⟨"query", lt', rid', r⟩ is received from p_j
abbrev pub on_query : ℕ → Process → ℕ → ℕ → ℕ → ℕ → Done
on_query i p j lt' rid' r =
    let lt = max p.lt lt' + 1 in  -- 6
    record {
      process =
          record {
            lt = lt;
            reading = p.reading;
            rreg = p.rreg;
            rid = p.rid;
            tsv = p.tsv;
            rval = p.rval;
            tvps = p.tvps;
            responses = p.responses;
          };
      sends = record { from = i; to = j; content = response lt rid' (p.tvps r) } ∷ [];  -- 7
      return = none;
    }

-- When ⟨"update", lt', rid', r, tsv'⟩ is received from p_j
abbrev pub on_update : ℕ → Process → ℕ → ℕ → ℕ → ℕ → Tsv → Done
on_update i p j lt' rid' r tsv' =
    let lt = max p.lt lt' + 1 in  -- 21
    record {
      process =
          record {
            lt = lt;
            reading = p.reading;
            rreg = p.rreg;
            rid = p.rid;
            tsv = p.tsv;
            rval = p.rval;
            tvps = assigned p.tvps r (max_tsv (p.tvps r) tsv');  -- 22
            responses = p.responses;
          };
      sends = record { from = i; to = j; content = ack lt rid' } ∷ [];  -- 23
      return = none;
    }

-- lines 8 to 15, once rid = rid'
abbrev pub response_counted : ℕ → ℕ → Process → ℕ → List Reply → Done
response_counted n i p lt responses =
    let tsv = max_of responses in  -- 11
    let rid = p.rid + 1 in  -- 14
    cond (eqb (length responses) (majority n))  -- 10
    (record {
      process =
          record {
            lt = lt;
            reading = p.reading;
            rreg = p.rreg;
            rid = rid;
            tsv = tsv;
            rval = tsv.value;  -- 12
            tvps = p.tvps;
            responses = [];  -- 13
          };
      sends = bcast n i (update lt rid p.rreg tsv);  -- 15
      return = none;
    })
    (record {
      process =
          record {
            lt = lt;
            reading = p.reading;
            rreg = p.rreg;
            rid = p.rid;
            tsv = p.tsv;
            rval = p.rval;
            tvps = p.tvps;
            responses = responses;
          };
      sends = [];
      return = none;
    })

-- a message that matches no condition starts no handler
abbrev pub unhandled : Process → Done
unhandled p = record { process = p; sends = []; return = none }

-- When ⟨"response", lt', rid', tsv'⟩ is received from p_j with rid = rid'
abbrev pub on_response : ℕ → ℕ → Process → ℕ → ℕ → ℕ → Tsv → Done
on_response n i p j lt' rid' tsv' =
    cond (eqb p.rid rid')
    (response_counted n i p (max p.lt lt' + 1) (join p.responses (pair tsv' j)))  -- 8, 9
    (unhandled p)

-- lines 24 to 30, once rid = rid'
abbrev pub ack_counted : ℕ → Process → ℕ → List Reply → Done
ack_counted n p lt responses =
    cond (eqb (length responses) (majority n))  -- 26
    (record {
      process =
          record {
            lt = lt;
            reading = p.reading;
            rreg = p.rreg;
            rid = p.rid + 1;  -- 28
            tsv = p.tsv;
            rval = p.rval;
            tvps = p.tvps;
            responses = [];  -- 27
          };
      sends = [];
      return = cond p.reading (value p.rval) OK;  -- 29, 30
    })
    (record {
      process =
          record {
            lt = lt;
            reading = p.reading;
            rreg = p.rreg;
            rid = p.rid;
            tsv = p.tsv;
            rval = p.rval;
            tvps = p.tvps;
            responses = responses;
          };
      sends = [];
      return = none;
    })

-- When ⟨"ack", lt', rid'⟩ is received from p_j with rid = rid'
abbrev pub on_ack : ℕ → Process → ℕ → ℕ → ℕ → Done
on_ack n p j lt' rid' =
    cond (eqb p.rid rid')
    (ack_counted n p (max p.lt lt' + 1) (join p.responses (only j)))  -- 24, 25
    (unhandled p)

abbrev pub on_receipt : ℕ → ℕ → Process → ℕ → Content → Done
on_receipt n i p j (query lt' rid' r) = on_query i p j lt' rid' r
on_receipt n i p j (response lt' rid' tsv') = on_response n i p j lt' rid' tsv'
on_receipt n i p j (update lt' rid' r tsv') = on_update i p j lt' rid' r tsv'
on_receipt n i p j (ack lt' rid') = on_ack n p j lt' rid'
