mod LowestCode
