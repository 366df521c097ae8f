mod TakeCode
